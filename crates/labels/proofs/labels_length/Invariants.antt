-- The lengths of the label lines are added up. Assumes nothing.
use Prim.Native.Nat.{◌*◌, ◌≤◌}
use mathlib.Core.Path.{◌≡◌}
use lib.ListN.{length}
use Rattle.sheet.specs.Sheet.{ended_lines}
use Rattle.labels.specs.Parts.{labels_of, label_most}
use Rattle.labels.proofs.labels_length.Given as goal

abbrev pub invariant-loop-k : goal.invariant-loop-k
invariant-loop-k l = record {
  is : l.sum ≡ length (ended_lines (labels_of l.k l.labels.bytes.now));
  few : l.sum ≤ label_most * l.k;
}
