-- A column's head as a height that its orders come up to. Assumes nothing.
use Prim.Native.Nat.{ℕ, ◌*◌, ◌≤◌, ◌<◌}
use native.Mathlib.Omega.{arith}
use lib.IntN.{ℤ, pos}
use lib.Signed.{◌≤ℤ◌}
use Rattle.theory.specs.Table.{Present, WithinLimit}
use Rattle.theory.specs.Canon.{Head}
use Rattle.theory.proofs.Signed.{plus, signed}
use Rattle.theory.proofs.Duality.{under_head}
use Rattle.orders.specs.Places.{ceiling}

module _ (n : ℕ) (a : ℕ → ℕ → ℤ) (l : ℕ → ℕ) (j : ℕ) where
  -- an order of the column does not pass the head, raised or not, and the head is no higher than twice the ceiling
  pub head_above : {h : ℤ} {i : ℕ} → Head n a l j h → i < n → Present (a i j) → a i j ≤ℤ h
  head_above {h} {i} t hi p = omega (arith, signed, under_head n a t i hi p, plus (a i j) (pos (l i)))

  pub head_under : {limit : ℕ} {h : ℤ} → limit ≤ ceiling → j < n → WithinLimit limit n a → ((i : ℕ) → i < n → l i ≤ ceiling) → Head n a l j h
      → h ≤ℤ pos (2 * ceiling)
  head_under small hj w le t =
      omega (
        arith,
        signed,
        t.is,
        (w t.row j t.inside hj t.maximum.present).high,
        le t.row t.inside,
        plus (a t.row j) (pos (l t.row)),
      )
