-- The lengths of the label lines are added up. Assumes nothing.
use native.Mathlib.Omega.{arith}
use Prim.Native.Nat.{◌≤◌}
use mathlib.Core.Path.{◌≡◌, refl, ap, ◌∙◌}
use lib.ListN.{length, length-append}
use Rattle.sheet.specs.Labels.{width, slot}
use Rattle.sheet.specs.Sheet.{ended_lines}
use Rattle.sheet.specs.Text.{ended}
use Rattle.labels.specs.Parts.{label_of, labels_of}
use Rattle.labels.proofs.SlotLaws.{label_le, slot_length, label_line_next, line_length}
use Rattle.labels.proofs.labels_length.Goals as goal
use Rattle.labels.proofs.labels_length.Goals.{After-label_length}

-- what is measured is label k, of 8 bytes at most
told : (c : After-label_length)
    → (c.label_length.result ≡ length (label_of (slot c.args.labels.now.bytes.now c.loop-k.k)))
    × (c.label_length.result ≤ width)
told c =
    let b = c.args.labels.now.bytes.now in
    let k = c.loop-k.k in
    let e = c.label_length.ensures ∙ ap (λ x. length (label_of x)) c.slot.ensures in
    (e, omega (arith, label_le (slot b k), slot_length b k (omega arith)))

pub loop-k-init : goal.loop-k-init
unfolding labels_of ended_lines
loop-k-init c = record { is = refl; few = omega arith }

pub overflow_add-sum : goal.overflow_add-sum
overflow_add-sum c = omega (arith, (told c).1)

pub overflow_add-sum-in-loop-k : goal.overflow_add-sum-in-loop-k
overflow_add-sum-in-loop-k c = omega (arith, (told c).1)

pub loop-k-preserved : goal.loop-k-preserved
loop-k-preserved c =
    let l = c.loop-k in
    let b = c.args.labels.now.bytes.now in
    let label = label_of (slot b l.k) in
    record {
      is = omega (arith, (told c).0, ap length (label_line_next l.k b), length-append (ended_lines (labels_of l.k b)) (ended label), line_length label);
      few = omega (arith, (told c).1);
    }
