-- The label lines so far are written, and the tail of the room is lent on. Assumes nothing.
use native.Mathlib.Omega.{arith}
use mathlib.Core.Path.{refl, sym}
use Rattle.lettering.proofs.PutLaws.{puts_none, puts_same, puts_tail, left_room}
use Rattle.sheet.specs.Labels.{slot}
use Rattle.sheet.specs.Sheet.{ended_lines}
use Rattle.sheet.specs.Text.{ended}
use Rattle.labels.specs.Parts.{label_of, labels_of}
use Rattle.labels.proofs.SlotLaws.{label_line_next, line_room}
use Rattle.labels.proofs.put_labels.Goals as goal

pub loop-k-init : goal.loop-k-init
unfolding labels_of ended_lines
loop-k-init c = puts_none c.args.out.now

pub put_label-at-requires : goal.put_label-at-requires
put_label-at-requires c =
    let l = c.loop-k in
    rw c.slot.ensures (left_room _ _ _ _ l.invariant (ended (label_of (slot c.args.labels.now.bytes.now l.k))) _ refl (omega (arith, line_room l.k c.args.labels.now.n c.args.labels.now.bytes.now (omega arith))))

pub loop-k-preserved : goal.loop-k-preserved
loop-k-preserved c =
    let l = c.loop-k in
    let b = c.args.labels.now.bytes.now in
    puts_same _ _ _ _ _ (sym (label_line_next l.k b))
    (puts_tail _ _ _ _ l.invariant (ended (label_of (slot b l.k))) _ _ _ refl (rw c.slot.ensures at c.put_label-at.ensures) (omega (arith, line_room l.k c.args.labels.now.n b (omega arith))))
