-- The walk over sections and lines, each handed the rest of the sheet. Assumes nothing.
use Rattle.std.proofs.Common.{◌+◌, length, Fits, w64}
use Rattle.reader.proofs.WalkLaws.{BeforeHeading, BeforeLine, sections_left}
use Rattle.reader.proofs.walk.Given as goal

abbrev pub invariant-loop-k : goal.invariant-loop-k
invariant-loop-k l = BeforeLine l.sheet l.kept l.section l.line l.rest l.heading.value l.k × Fits w64 (length l.sheet + 1)

abbrev pub invariant-sheet : goal.invariant-sheet
invariant-sheet l = BeforeHeading l.sheet l.kept l.section l.line l.rest × Fits w64 (length l.sheet + 1)

abbrev pub decreases-sheet : goal.decreases-sheet
decreases-sheet l = sections_left l.section
