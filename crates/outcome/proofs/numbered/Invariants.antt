-- The columns numbered from 1. Assumes nothing.
use mathlib.Core.Path.{◌≡◌}
use Prim.Native.Nat.{◌+◌}
use Rattle.theory.specs.Lists.{nums}
use Rattle.orders.proofs.Sweeps.{Swept}
use Rattle.outcome.proofs.numbered.Given as goal

abbrev pub invariant-loop-i : goal.invariant-loop-i
invariant-loop-i l = Swept 0 (λ x v. v ≡ nums l.columns x + 1) l.initial.stars l.stars l.i
