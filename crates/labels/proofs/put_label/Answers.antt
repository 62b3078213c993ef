-- A label and a line feed. Assumes nothing.
use native.Mathlib.Omega.{arith}
use mathlib.Core.Path.{◌≡◌, sym, ap, ◌∙◌}
use lib.ListN.{take}
use lib.Seq.{length-take-le}
use Rattle.lettering.proofs.PutLaws.{puts_same, puts_byte}
use Rattle.sheet.specs.Text.{feed}
use Rattle.labels.specs.Parts.{label_of}
use Rattle.labels.proofs.SlotLaws.{label_le, label_take, line_length}
use Rattle.labels.proofs.put_label.Goals as goal

pub slice_bounds-put-end : goal.slice_bounds-put-end
slice_bounds-put-end c = sym (length-take-le _ c.args.slot.now (omega (arith, c.label_length.ensures, label_le c.args.slot.now)))

pub returns : goal.returns
returns c =
    let s = c.args.slot.now in
    let e : take c.label_length.result s ≡ label_of s = ap (λ x. take x s) c.label_length.ensures ∙ label_take s in
    puts_byte _ _ _ _ (puts_same _ _ _ _ _ e c.put-a.ensures) feed (omega (arith, line_length (label_of s)))
