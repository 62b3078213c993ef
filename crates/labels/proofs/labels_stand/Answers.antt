-- The places of a buffer are tested one after the other. Assumes nothing.
use native.Mathlib.Omega.{arith}
use mathlib.Core.Path.{◌∙◌, subst⁻¹}
use Rattle.labels.specs.Parts.{SlotStands}
use Rattle.labels.specs.Wrong.{malformed, repeated}
use Rattle.labels.proofs.SlotLaws.{filled_stands, buffer_more, labels_wrong}
use Rattle.labels.proofs.labels_stand.Goals as goal
use Rattle.labels.proofs.labels_stand.Goals.{then-not-slot_stands-via-then-not-slot_stands, then-not-slot_stands-via-else-not-slot_stands+then-repeated}

pub returns-then-not-slot_stands : goal.returns-then-not-slot_stands
returns-then-not-slot_stands c =
    elim c.then-not-slot_stands.branch [
      | then-not-slot_stands-via-then-not-slot_stands w ↦
          labels_wrong (malformed c.loop-k.k (omega arith)
          (λ l f e. c.slot_stands.ensures.fails w.if-not-slot_stands.true (subst⁻¹ (λ x. SlotStands x) (c.slot.ensures ∙ e) (filled_stands l f))))
      | then-not-slot_stands-via-else-not-slot_stands+then-repeated w ↦
          labels_wrong (repeated c.loop-k.k (omega arith) (w.repeated.ensures.holds w.if-repeated.true))
    ]

pub loop-k-preserved : goal.loop-k-preserved
loop-k-preserved c =
    buffer_more c.loop-k.k c.args.labels.now.bytes.now (omega arith) c.loop-k.invariant
    (rw c.slot.ensures at (c.slot_stands.ensures.holds c.if-not-slot_stands.false)) (c.repeated.ensures.fails c.if-repeated.false)
