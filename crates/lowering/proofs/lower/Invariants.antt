-- The fall from a canon to the least canon from the floors. Assumes nothing.
use Rattle.theory.specs.Lists.{flags}
use Rattle.orders.proofs.Flags.{unset}
use Rattle.lowering.proofs.Descent.{Going}
use Rattle.lowering.proofs.lower.Given as goal

abbrev pub invariant-loop-k : goal.invariant-loop-k
invariant-loop-k l = Going l.table.entries.now l.table.n l.columns l.fn.canon l.fn.floors l.rows

abbrev pub decreases-loop-k : goal.decreases-loop-k
decreases-loop-k l = unset l.table.n (flags l.rows.settled)
