-- The digits are told by the logarithm. Assumes nothing.
use Rattle.lettering.proofs.TextLaws.{logarithm_digits}
use Rattle.lettering.proofs.digits.Goals as goal

pub returns : goal.returns
returns c =
    let g = c.checked_ilog10.ensures in
    rw c.unwrap_or.ensures (logarithm_digits c.args.v c.checked_ilog10.result g.none g.power_le g.next_power_gt)
