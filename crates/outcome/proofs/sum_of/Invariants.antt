-- The sum, one row after the other. Assumes nothing.
use mathlib.Core.Path.{◌≡◌}
use Prim.Native.Nat.{◌*◌}
use Rattle.theory.specs.Lists.{nums}
use Rattle.theory.specs.Totals.{total}
use Rattle.theory.specs.Table.{entry, Order}
use Rattle.outcome.proofs.sum_of.Given as goal

abbrev pub invariant-loop-i : goal.invariant-loop-i
invariant-loop-i l = (l.sum ≡ total l.i (λ x. entry l.table.entries.now l.table.n x (nums l.columns x))) × Order (l.i * 32768) l.sum
