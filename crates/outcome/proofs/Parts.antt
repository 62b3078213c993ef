-- The heads, the sum and the numbers of the stars. Assumes nothing.
use mathlib.Core.Path.{◌≡◌, refl, sym, ◌∙◌, ap₂}
use mathlib.Core.List.{List}
use Prim.Native.Nat.{ℕ, ◌+◌, ◌*◌, ◌≤◌, ◌<◌}
use native.Mathlib.Numerals.{add-one}
use native.Mathlib.Omega.{arith}
use lib.IntN.{ℤ, pos, negsuc, ◌+ℤ◌}
use lib.Signed.{mag}
use mir.Syntax.{w16, w32}
use mir.Val.{SFits, to_z, of_z}
use mir.Facts.{to_z-of_z, sfits_widen}
use Rattle.theory.specs.Limits.{row_limit}
use Rattle.theory.specs.Lists.{nums, ints, columns}
use Rattle.theory.specs.Totals.{total}
use Rattle.theory.specs.Table.{entry, Order}
use Rattle.theory.specs.Canon.{Head, Heads, Stars, sum}
use Rattle.theory.proofs.Signed.{plus, signed, below_zero}
use Rattle.theory.proofs.Unique.{stars_rows, sum_same}
use Rattle.outcome.specs.Completion.{RowsHold, WholeAnswerOf}

-- the raised order of the row that is marked in a column is the column's head
pub head_marked : {t : List ℤ} {n j : ℕ} {l row_of : List ℕ} {h : ℤ} → RowsHold t n l row_of → j < n
    → h ≡ entry t n (nums row_of j) j +ℤ pos (nums l (nums row_of j)) → Head n (entry t n) (nums l) j h
head_marked {j = j} w hj e = record { row = _; inside = w.inside j hj; maximum = w.maximum j hj; is = e }

pub total_none : (f : ℕ → ℤ) → total 0 f ≡ pos 0
unfolding total
total_none f = refl

-- one more order in a total
pub total_more : (k : ℕ) (f : ℕ → ℤ) → total (k + 1) f ≡ total k f +ℤ f k
unfolding total
total_more k f = rw add-one refl

-- a number between −b and b, as `mag` has it
pub mag_order : (b : ℕ) (z : ℤ) → Order b z → mag z ≤ b
mag_order b (pos n) o = omega (arith, signed, o.high)
mag_order b (negsuc n) o = omega (arith, signed, o.low)

-- a sum of i numbers of 16 bits
pub sum_start : Order 0 (pos 0)
sum_start = record { low = omega (arith, signed); high = omega (arith, signed) }

pub sum_near : (z v : ℤ) (i : ℕ) → SFits w16 v → Order (i * 32768) z → Order ((i + 1) * 32768) (z +ℤ v)
sum_near z v i f o =
    record {
      low = omega (arith, signed, plus z v, o.low, below_zero ((i + 1) * 32768));
      high = omega (arith, signed, plus z v, o.high);
    }

-- one more order in a sum, as the machine adds it
pub sum_more : (f : ℕ → ℤ) (i : ℕ) (s v q : ℤ) → i < row_limit → SFits w16 v → q ≡ to_z w16 (of_z w16 v) → v ≡ f i
    → (s ≡ total i f) × Order (i * 32768) s
    → (to_z w32 (of_z w32 (s +ℤ to_z w32 (of_z w32 q))) ≡ total (i + 1) f)
    × Order ((i + 1) * 32768) (to_z w32 (of_z w32 (s +ℤ to_z w32 (of_z w32 q))))
sum_more f i s v q small fit e is w =
    let near : Order ((i + 1) * 32768) (s +ℤ v) = sum_near s v i fit w.1 in
    let fits : SFits w32 (s +ℤ v) = omega (arith, signed, plus s v, near.low, near.high) in
    let q_is : q ≡ v = e ∙ to_z-of_z fit in
    rw (q_is, to_z-of_z {w = w32} (sfits_widen tt fit), to_z-of_z fits) (ap₂ ◌+ℤ◌ w.0 is ∙ sym (total_more i f), near)

-- numbered from 1, the first stars are still the first, with the same sum
pub completed_whole : (t : List ℤ) (n : ℕ) (l first s : List ℕ) (h : List ℤ) (z : ℤ) → Heads n (entry t n) (nums l) (ints h)
    → Stars n (entry t n) (nums l) (nums first) → z ≡ sum n (entry t n) (nums first) → ((i : ℕ) → i < n → nums s i ≡ nums first i + 1)
    → WholeAnswerOf t n l (record { additions = l; stars = s; heads = h; sum = z })
completed_whole t n l first s h z heads stars e f =
    record {
      same = refl;
      stars = stars_rows n (entry t n) agree stars;
      from_one = λ i hi. omega (arith, f i hi);
      heads = heads;
      is_sum = e ∙ sum_same n (entry t n) agree;
    }
  where
    agree : (i : ℕ) → i < n → nums first i ≡ columns s i
    agree i hi = omega (arith, f i hi)
