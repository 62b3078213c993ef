-- The rows are starred one after the other. Assumes nothing.
use Rattle.stars.proofs.Progress.{Progress}
use Rattle.stars.proofs.star_rows.Given as goal

abbrev pub invariant-loop-i : goal.invariant-loop-i
invariant-loop-i l = Progress l.raised l.marks l.i
