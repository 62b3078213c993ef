-- The pass over the columns that finds the first heads. Assumes nothing.
use mathlib.Core.List.{List}
use Prim.Native.Nat.{ℕ, ◌<◌}
use lib.IntN.{ℤ}
use Rattle.theory.specs.Lists.{nums, ints}
use Rattle.theory.specs.Table.{entry}
use Rattle.theory.specs.Canon.{Head}
use Rattle.orders.specs.Held.{Long}

-- h has the heads of the first k columns
pub record HeadsTo (t : List ℤ) (n k : ℕ) (l : List ℕ) (h : List ℤ) : Type 0 where
  pub heads : (j : ℕ) → j < k → Head n (entry t n) (nums l) j (ints h j)
  pub long : Long h
