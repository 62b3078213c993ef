-- Head, lowest row and count of each column, one column after the other. Assumes nothing.
use Rattle.orders.proofs.Places.{TopsTo}
use Rattle.orders.proofs.table.Table.heads.Given as goal

abbrev pub invariant-loop-j : goal.invariant-loop-j
invariant-loop-j l = TopsTo l.self.entries.now l.self.n l.j l.additions l.tops
