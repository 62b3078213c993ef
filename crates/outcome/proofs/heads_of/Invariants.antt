-- The heads, read off the marks one column after the other. Assumes nothing.
use lib.IntN.{pos}
use Rattle.theory.specs.Lists.{nums}
use Rattle.theory.specs.Table.{entry}
use Rattle.theory.specs.Canon.{Head}
use Rattle.orders.proofs.Sweeps.{Swept}
use Rattle.outcome.proofs.heads_of.Given as goal

abbrev pub invariant-loop-j : goal.invariant-loop-j
invariant-loop-j l = Swept (pos 0) (Head l.table.n (entry l.table.entries.now l.table.n) (nums l.additions)) l.initial.heads l.heads l.j
