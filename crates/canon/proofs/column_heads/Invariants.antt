-- Head, lowest row and count of each column are written, one column after the other. Assumes nothing.
use Rattle.canon.proofs.Filling.{FilledTo}
use Rattle.canon.proofs.column_heads.Given as goal

abbrev pub invariant-loop-j : goal.invariant-loop-j
invariant-loop-j l = FilledTo l.j l.tops l.heads l.rows l.counts
