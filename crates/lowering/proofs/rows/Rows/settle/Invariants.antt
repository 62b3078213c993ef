-- The floors rise, once one more row is settled. Assumes nothing.
use Rattle.std.proofs.Common.{◌≡◌}
use Rattle.theory.specs.Lists.{nums}
use Rattle.theory.specs.Table.{entry}
use Rattle.orders.proofs.Sweeps.{Swept}
use Rattle.lowering.specs.Descent.{PulledAt}
use Rattle.lowering.proofs.rows.Rows.settle.Given as goal

abbrev pub invariant-loop-i : goal.invariant-loop-i
invariant-loop-i l =
    let old = l.initial.self in
    let pulled = PulledAt (entry l.table.entries.now l.table.n) (nums l.columns) (nums old.floors) l.k (nums old.additions l.k) in
    record {
      swept : Swept 0 pulled old.floors l.self.floors l.i;
      additions : l.self.additions ≡ old.additions;
      settled : l.self.settled ≡ old.settled;
    }
