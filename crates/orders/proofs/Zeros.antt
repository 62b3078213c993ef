-- Zeros for a start, as the code has them. Assumes nothing.
use Prim.Native.Nat.{ℕ, ◌≤◌}
use native.Mathlib.Omega.{arith}
use lib.IntN.{ℤ}
use lib.ListN.{replicate}
use Rattle.theory.specs.Limits.{row_limit}
use Rattle.theory.specs.Lists.{nums}
use Rattle.theory.specs.Canon.{LeastFrom, Simplest}
use Rattle.theory.proofs.Unique.{start_same}
use Rattle.orders.proofs.Flags.{fresh}
use mathlib.Core.List.{List}
use Rattle.orders.specs.Held.{LeastBy}

-- they are within every limit
pub zero_start : (b i : ℕ) → nums (replicate row_limit 0) i ≤ b
zero_start b i = omega (arith, fresh {X = ℕ} row_limit i 0)

-- and the least canon from them is the simplest
pub zero_simplest : {n : ℕ} {a : ℕ → ℕ → ℤ} {l : ℕ → ℕ} → LeastFrom n a (nums (replicate row_limit 0)) l → Simplest n a l
zero_simplest {n} {a} f = start_same n a (λ i hi. fresh {X = ℕ} row_limit i 0) f

-- also with the columns of its transversal
pub zero_least : {t : List ℤ} {n : ℕ} {l column_of : List ℕ} → LeastBy t n (nums (replicate row_limit 0)) l column_of → LeastBy t n (λ i. 0) l column_of
zero_least w = record { least = zero_simplest w.least; canon = w.canon }
