-- Every unsettled row falls. Assumes nothing.
use Rattle.std.proofs.Common.{◌≡◌}
use Rattle.theory.specs.Lists.{nums, flags}
use Rattle.orders.proofs.Sweeps.{Swept}
use Rattle.lowering.specs.Descent.{Fallen}
use Rattle.lowering.proofs.rows.Rows.fall.Given as goal

abbrev pub invariant-loop-i : goal.invariant-loop-i
invariant-loop-i l =
    let old = l.initial.self in
    record {
      swept : Swept 0 (Fallen (nums old.additions) (flags old.settled) l.d) old.additions l.self.additions l.i;
      floors : l.self.floors ≡ old.floors;
      settled : l.self.settled ≡ old.settled;
    }
