-- C3: the smaller and the larger of two canons, row by row, are canons. Assumes nothing.
use Prim.Native.Nat.{ℕ, min, max}
use native.Mathlib.Omega.{arith}
use lib.IntN.{ℤ, pos, ◌+ℤ◌}
use lib.Signed.{◌≤ℤ◌}
use Rattle.theory.specs.Canon.{Canon}
use Rattle.theory.proofs.Signed.{raised_le_ud, ud_raised_le}
use Rattle.theory.proofs.Duality.{maxima_everywhere}

module _ (n : ℕ) (a : ℕ → ℕ → ℤ) where
  -- f keeps every bound of one number by another with a fixed difference, as the smaller and the larger of two numbers do
  abbrev Keeps : (ℕ → ℕ → ℕ) → Type 0
  Keeps f = (p q : ℤ) (x y u v : ℕ) → (p +ℤ pos x) ≤ℤ (q +ℤ pos u) → (p +ℤ pos y) ≤ℤ (q +ℤ pos v) → (p +ℤ pos (f x y)) ≤ℤ (q +ℤ pos (f u v))

  min_keeps : Keeps min
  min_keeps p q x y u v g h =
      ud_raised_le p q (min x y) (min u v) (omega (arith, raised_le_ud p q x u g, raised_le_ud p q y v h))

  max_keeps : Keeps max
  max_keeps p q x y u v g h =
      ud_raised_le p q (max x y) (max u v) (omega (arith, raised_le_ud p q x u g, raised_le_ud p q y v h))

  -- By C2 both canons have one transversal σ of column maxima. That σ consists of column maxima is a set of bounds of one
  -- addition by another, and what keeps such bounds takes two canons to a canon.
  rowwise : {l m : ℕ → ℕ} (f : ℕ → ℕ → ℕ) → Keeps f → Canon n a l → Canon n a m → Canon n a (λ i. f (l i) (m i))
  rowwise {l} {m} f keeps c d =
      record {
        columns = c.columns;
        of_maxima = record {
          transversal = c.of_maxima.transversal;
          maximum = λ i hi. record {
            present = c.of_maxima.transversal.present i hi;
            unexceeded = λ k hk p.
                keeps (a k (c.columns i)) (a i (c.columns i)) (l k) (m k) (l i) (m i) ((c.of_maxima.maximum i hi).unexceeded k hk p)
                (((maxima_everywhere n a c.of_maxima d).maximum i hi).unexceeded k hk p);
          };
        };
      }

  pub smaller_canon : {l m : ℕ → ℕ} → Canon n a l → Canon n a m → Canon n a (λ i. min (l i) (m i))
  smaller_canon = rowwise min min_keeps

  pub larger_canon : {l m : ℕ → ℕ} → Canon n a l → Canon n a m → Canon n a (λ i. max (l i) (m i))
  larger_canon = rowwise max max_keeps
