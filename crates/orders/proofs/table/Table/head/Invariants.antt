-- Head, lowest row and count of a column, one row after the other. Assumes nothing.
use Rattle.orders.proofs.Places.{Sought}
use Rattle.orders.proofs.table.Table.head.Given as goal

abbrev pub invariant-loop-i : goal.invariant-loop-i
invariant-loop-i l = Sought l.self.entries.now l.self.n l.i l.additions l.j l.height l.row l.count
