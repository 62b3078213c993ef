-- The places of a buffer are tested one after the other. Assumes nothing.
use Rattle.labels.specs.Parts.{BufferStands}
use Rattle.labels.proofs.labels_stand.Given as goal

abbrev pub invariant-loop-k : goal.invariant-loop-k
invariant-loop-k l = BufferStands l.k l.labels.bytes.now
