-- The head of each column under the start, or a column with no order. Assumes nothing.
use Rattle.growth.proofs.Heads.{HeadsTo}
use Rattle.growth.proofs.first_heads.Given as goal

abbrev pub invariant-loop-j : goal.invariant-loop-j
invariant-loop-j l = HeadsTo l.table.entries.now l.table.n l.j l.start l.heads
