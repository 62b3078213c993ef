-- A minus and a number that is not 0, or a number. Assumes nothing.
use Rattle.std.proofs.Common.{◌≡◌, ◌∷◌, [], Some}
use Rattle.std.proofs.lemmas.Slice.Eq.{strip_prefix_is}
use Rattle.std.proofs.lemmas.Bool.Decides.{Decides-eqb}
use Rattle.sheet.specs.Text.{minus}
use Rattle.fields.proofs.SignedLaws.{minus_nothing, minus_zero}
use Rattle.fields.proofs.signed_number.Goals as goal
use Rattle.fields.proofs.signed_number.Goals.{In-Some}

-- the text is a minus and the bytes behind it
parts : (c : In-Some) → c.args.s.now ≡ minus ∷ c.in-Some.digits.now
parts c = strip_prefix_is Decides-eqb c.args.s.now (minus ∷ []) (Some c.in-Some.digits) c.in-Some.ensures.cases

pub returns-in_err-size : goal.returns-in_err-size
returns-in_err-size c =
    rw c.from_residual.ensures (minus_nothing _ _ (parts (goal.at.returns-in_err-size c).In-Some) c.in_err-size.ensures)

pub returns-then-size-eq0 : goal.returns-then-size-eq0
returns-then-size-eq0 c =
    minus_zero _ _ (parts (goal.at.returns-then-size-eq0 c).In-Some) (rw c.if-size-eq0.true at c.in_ok-size.ensures)
