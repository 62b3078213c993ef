-- A place holds a label and then zero bytes. Assumes nothing.
use native.Mathlib.Omega.{arith}
use Prim.Native.Nat.{ℕ, ◌<◌, ◌≤◌}
use mathlib.Core.Path.{◌≡◌, sym, ap, subst, ◌∙◌}
use lib.ListN.{length, get_or, take}
use lib.Seq.{length-take-le}
use Rattle.orders.specs.Tested.{Tells}
use Rattle.orders.proofs.Entries.{tells_no}
use Rattle.sheet.specs.Labels.{Form}
use Rattle.sheet.proofs.Bytes.{rest}
use Rattle.labels.specs.Parts.{label_of}
use Rattle.labels.proofs.SlotLaws.{label_le, label_take, slot_tells}
use Rattle.labels.proofs.slot_stands.Goals as goal
use Rattle.labels.proofs.slot_stands.Goals.{After-label_length-k}

short : (c : After-label_length-k) → c.label_length-k.result ≤ length c.args.slot.now
short c = omega (arith, c.label_length-k.ensures, label_le c.args.slot.now)

label_is : (c : After-label_length-k) → take c.label_length-k.result c.args.slot.now ≡ label_of c.args.slot.now
label_is c = ap (λ x. take x c.args.slot.now) c.label_length-k.ensures ∙ label_take c.args.slot.now

pub slice_bounds-label_stands-end : goal.slice_bounds-label_stands-end
slice_bounds-label_stands-end c = sym (length-take-le _ c.args.slot.now (short c))

pub slice_bounds-all_zero-count : goal.slice_bounds-all_zero-count
slice_bounds-all_zero-count c = short (goal.at.slice_bounds-all_zero-count c).After-label_length-k

pub slice_bounds-all_zero-start : goal.slice_bounds-all_zero-start
slice_bounds-all_zero-start c = short (goal.at.slice_bounds-all_zero-start c).After-label_length-k

pub returns-then-label_stands : goal.returns-then-label_stands
returns-then-label_stands c =
    let s = c.args.slot.now in
    let k = c.label_length-k.result in
    slot_tells s k c.all_zero.result c.label_length-k.ensures
    (subst (λ x. Form x) (label_is (goal.at.returns-then-label_stands c).After-label_length-k) (c.label_stands.ensures.holds c.if-label_stands.true))
    (subst (λ y. Tells c.all_zero.result ((i : ℕ) → i < length y → get_or y i 0 ≡ 0)) (rest s k) c.all_zero.ensures)

pub returns-else-label_stands : goal.returns-else-label_stands
returns-else-label_stands c =
    rw c.if-label_stands.false
    (tells_no
    (λ s. c.label_stands.ensures.fails c.if-label_stands.false (subst (λ x. Form x) (sym (label_is (goal.at.returns-else-label_stands c).After-label_length-k)) s.form)))
