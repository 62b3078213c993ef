-- The rounds, at most n of them. Assumes nothing.
use Prim.Native.Nat.{◌+◌, ◌-◌, ◌≤◌}
use Rattle.theory.specs.Limits.{order_limit, addition_limit}
use Rattle.theory.specs.Lists.{nums}
use Rattle.theory.specs.Table.{entry}
use Rattle.raising.proofs.Ends.{BeforeRound}
use Rattle.raising.proofs.climb.Given as goal

abbrev pub invariant-loop-rounds : goal.invariant-loop-rounds
invariant-loop-rounds l =
    let n = l.table.n in
    let a = entry l.table.entries.now n in
    record {
      before : BeforeRound order_limit addition_limit n a (nums l.columns) (nums l.fn.start) (l._rounds - 1) (nums l.additions);
      few : l._rounds ≤ n + 1;
    }
