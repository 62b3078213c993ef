-- The label lines so far are written, and the tail of the room is lent on. Assumes nothing.
use Rattle.lettering.specs.Putting.{Puts}
use Rattle.sheet.specs.Sheet.{ended_lines}
use Rattle.labels.specs.Parts.{labels_of}
use Rattle.labels.proofs.put_labels.Given as goal

abbrev pub invariant-loop-k : goal.invariant-loop-k
invariant-loop-k l = Puts (ended_lines (labels_of l.k l.labels.bytes.now)) l.initial.out l.out l.at
