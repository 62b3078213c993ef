-- The least addition that keeps an order a maximum beside another, and the floors that it gives. Assumes nothing.
use mathlib.Core.Path.{◌≡◌}
use Prim.Native.Nat.{ℕ, ◌≤◌}
use native.Mathlib.Omega.{arith}
use lib.IntN.{ℤ, pos}
use mir.Syntax.{w16}
use mir.Val.{SFits, to_z, of_z}
use mir.Facts.{to_z-of_z}
use Rattle.theory.specs.Table.{absent, Present}
use Rattle.theory.proofs.Signed.{plus, signed}
use Rattle.lowering.specs.Descent.{Pull, PulledAt}

-- what a call tells of two orders that were read from the table
pub pull_told : {x v x' v' : ℤ} {l l' r : ℕ} → SFits w16 x → SFits w16 v → x ≡ x' → v ≡ v' → l ≡ l'
    → Pull (to_z w16 (of_z w16 x)) l (to_z w16 (of_z w16 v)) r → Pull x' l' v' r
pull_told f g d e h p = rw (← d, ← e, ← h) (simp (to_z-of_z) at p)

module _ (a : ℕ → ℕ → ℤ) (column_of floors : ℕ → ℕ) (k l i : ℕ) where
  -- row k is absent in the column
  pub pulled_absent : a k (column_of i) ≡ absent → PulledAt a column_of floors k l i (floors i)
  pulled_absent e = record { above = omega arith; enough = λ p. absurd (p e); least = λ m h f. h }

  module _ {r : ℕ} (w : Pull (a k (column_of i)) l (a i (column_of i)) r) where
    -- the floor is high enough
    pub pulled_kept : r ≤ floors i → PulledAt a column_of floors k l i (floors i)
    pulled_kept h =
        record {
          above = omega arith;
          enough = λ q. omega (arith, signed, w.enough, plus (a i (column_of i)) (pos r), plus (a i (column_of i)) (pos (floors i)));
          least = λ m g f. g;
        }

    -- the floor rises
    pub pulled_raised : Present (a k (column_of i)) → floors i ≤ r → PulledAt a column_of floors k l i r
    pulled_raised p h = record { above = h; enough = λ q. w.enough; least = λ m g f. w.least m (f p) }
