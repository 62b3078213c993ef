-- The bytes of a label so far stand in its place. Assumes nothing.
use Rattle.std.proofs.Common.{◌≡◌, ◌*◌, length}
use Rattle.std.proofs.Math.Seq.{paste}
use Rattle.theory.specs.Limits.{row_limit}
use Rattle.sheet.specs.Labels.{width}
use Rattle.lines.proofs.put_label.Given as goal

abbrev pub invariant-loop-i : goal.invariant-loop-i
invariant-loop-i l = (l.labels ≡ paste l.initial.labels l.at l.line l.i) × (length l.labels ≡ width * row_limit)
