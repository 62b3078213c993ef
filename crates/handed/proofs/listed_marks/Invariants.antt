-- The marks of a list of stars. Assumes nothing.
use Rattle.handed.proofs.Marking.{MarkedTo}
use Rattle.handed.proofs.listed_marks.Given as goal

abbrev pub invariant-loop-i : goal.invariant-loop-i
invariant-loop-i l = MarkedTo l.n l.i l.given l.rows l.columns l.taken
