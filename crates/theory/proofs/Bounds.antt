-- The sharp bounds of document 01's table of limits, over the size n, the limit L and the largest start B: additions at most
-- B + (n − 1) · 2L, heads from −L to B + (n − 1) · 2L + L, sums within ± n · L. Assumes nothing.
use mathlib.Core.Path.{◌≡◌, refl}
use mathlib.Core.Logic.{◌⊎◌, inl, inr}
use Prim.Native.Nat.{ℕ, zero, suc, ◌+◌, ◌-◌, ◌*◌, ◌≤◌, ◌<◌}
use native.Mathlib.Decide.{dec_lt, dec_le}
use native.Mathlib.Omega.{arith}
use lib.IntN.{ℤ, pos, negsuc, neg_ℤ}
use lib.Signed.{◌≤ℤ◌}
use Rattle.theory.specs.Limits.{row_limit, order_limit, Figures, FoundWithin}
use Rattle.theory.specs.Totals.{totalℕ}
use Rattle.theory.specs.Table.{Order, WithinLimit}
use Rattle.theory.specs.Canon.{Transversal, Maximum, OfMaxima, LeastFrom, Head, sum, Solution}
use Rattle.theory.specs.Paths.{Leads}
use Rattle.theory.proofs.Pigeonhole.{choose, choose_yes, choose_no, exists, dec_both}
use Rattle.theory.proofs.Totals.{total_ge, total_lt, total_bound, total_tight}
use Rattle.theory.proofs.Signed.{up, dn, plus, signed, raised_le_ud, below_zero, total_ud}
use Rattle.theory.proofs.Paths.{leads_out}

module _ (n : ℕ) (a : ℕ → ℕ → ℤ) where
  -- a row is at most 2 L above one that it leads to
  lead_near : {L : ℕ} {l σ : ℕ → ℕ} {i k : ℕ} → WithinLimit L n a → OfMaxima n a l σ → Leads n (Maximum n a l) σ i k → l i ≤ l k + 2 * L
  lead_near {L} {l} {σ} {i} {k} w c s =
      let p = w i (σ i) s.from s.column (c.transversal.present i s.from) in
      let q = w k (σ i) s.to s.column s.holds.present in
      omega (
        arith,
        signed,
        p.low,
        q.high,
        raised_le_ud (a i (σ i)) (a k (σ i)) (l i) (l k) (s.holds.unexceeded i s.from (c.transversal.present i s.from)),
      )

  -- The rows whose addition is at most B + 2Lt, B being at least every start, number at least t + 1, or are all rows. By induction
  -- on t: K, on the rows above, finds one of them that leads to a row below, hence at most 2L higher: one more row for t + 1.
  module _ {L B : ℕ} {start l : ℕ → ℕ} (w : WithinLimit L n a) (lf : LeastFrom n a start l) (starts : (i : ℕ) → i < n → start i ≤ B) where
    abbrev height : ℕ → ℕ
    height t = B + t * (2 * L)

    abbrev low_rows : ℕ → ℕ → ℕ
    low_rows t i = choose (dec_le (l i) (height t)) 1 0

    abbrev All : ℕ → Type 0
    All t = (i : ℕ) → i < n → l i ≤ height t

    -- a row above the height that leads to one that is not
    step : (t x : ℕ) → x < n → height t < l x → (i k : ℕ) × (i < n) × (height t < l i) × (k < n) × (l k ≤ height t) × (l i ≤ l k + 2 * L)
    step t x hx above =
        let (i, k, xi, out, s) =
        leads_out n a lf lf.canon.of_maxima (λ i. (i < n) × (height t < l i)) (λ i. dec_both (dec_lt i n) (dec_lt (height t) (l i)))
        (λ i o. (o.0, omega (arith, o.1, starts i o.0))) x (hx, above) in
        (i, k, xi.0, xi.1, s.to, go k s.to out (dec_le (l k) (height t)), lead_near w lf.canon.of_maxima s)
      where
        go : (k : ℕ) → k < n → ((k < n) × (height t < l k) → ⊥) → Dec (l k ≤ height t) → l k ≤ height t
        go k hk out (yes le) = le
        go k hk out (no gt) = absurd (out (hk, omega arith))

    is_low : (t i : ℕ) → l i ≤ height t → low_rows t i ≡ 1
    is_low t i h = choose_yes (dec_le (l i) (height t)) 1 0 h

    is_high : (t i : ℕ) → height t < l i → low_rows t i ≡ 0
    is_high t i h = choose_no (dec_le (l i) (height t)) 1 0 (λ le. omega arith)

    low_more : (t i : ℕ) → low_rows t i ≤ low_rows (suc t) i
    low_more t i = go (dec_le (l i) (height t)) (dec_le (l i) (height (suc t)))
      where
        go : (d : Dec (l i ≤ height t)) (e : Dec (l i ≤ height (suc t))) → choose d 1 0 ≤ choose e 1 0
        go (yes p) (yes q) = omega arith
        go (yes p) (no q) = absurd (q (omega arith))
        go (no p) e = omega arith

    count : (t : ℕ) → All t ⊎ (t < totalℕ n (low_rows t))
    count zero = go (exists (λ i. height 0 < l i) (λ i. dec_lt (height 0) (l i)) n)
      where
        go : ((i : ℕ) × (i < n) × (height 0 < l i)) ⊎ ((i : ℕ) → i < n → height 0 < l i → ⊥) → All 0 ⊎ (0 < totalℕ n (low_rows 0))
        go (inl (x, hx, above)) =
            let (i, k, hi, hai, hk, lk, near) = step 0 x hx above in
            inr (omega (arith, total_ge n (low_rows 0) k hk, is_low 0 k lk))
        go (inr none) = inl (λ i hi. omega (arith, none i hi))
    count (suc t) = go (count t) (exists (λ i. height t < l i) (λ i. dec_lt (height t) (l i)) n)
      where
        go : All t ⊎ (t < totalℕ n (low_rows t)) → ((i : ℕ) × (i < n) × (height t < l i)) ⊎ ((i : ℕ) → i < n → height t < l i → ⊥)
            → All (suc t) ⊎ (suc t < totalℕ n (low_rows (suc t)))
        go (inl all) e = inl (λ i hi. omega (arith, all i hi))
        go (inr more) (inl (x, hx, above)) =
            let (i, k, hi, hai, hk, lk, near) = step t x hx above in
            inr (omega (
              arith,
              total_lt n (low_rows t) (low_rows (suc t)) i (λ i hi. low_more t i) hi (omega (arith, is_high t i hai, is_low (suc t) i (omega arith))),
            ))
        go (inr more) (inr none) = inl (λ i hi. omega (arith, none i hi))

    -- K-bound: "addition found at most (N − 1) × 200", above the largest start
    pub addition_bound : (i : ℕ) → i < n → l i ≤ B + (n - 1) * (2 * L)
    addition_bound i hi = go (count (n - 1))
      where
        one : (t i : ℕ) → low_rows t i ≤ 1
        one t i = from (dec_le (l i) (height t))
          where
            from : (d : Dec (l i ≤ height t)) → choose d 1 0 ≤ 1
            from (yes p) = omega arith
            from (no p) = omega arith

        told : (d : Dec (l i ≤ height (n - 1))) → choose d 1 0 ≡ 1 → l i ≤ height (n - 1)
        told (yes p) e = p
        told (no p) e = absurd (omega arith)

        go : All (n - 1) ⊎ (n - 1 < totalℕ n (low_rows (n - 1))) → l i ≤ B + (n - 1) * (2 * L)
        go (inl all) = all i hi
        go (inr many) =
            told (dec_le (l i) (height (n - 1)))
            (total_tight n (low_rows (n - 1)) (λ i. 1) (λ i hi. one (n - 1) i) (omega (arith, total_bound n 1 (λ i. 1) (λ i hi. omega arith))) i hi)

    -- "column maximum found: −100 to 6,300"
    pub head_high : {j : ℕ} {h : ℤ} → j < n → Head n a l j h → h ≤ℤ pos (B + (n - 1) * (2 * L) + L)
    head_high {j} {h} hj t =
        omega (
          arith,
          signed,
          t.is,
          (w t.row j t.inside hj t.maximum.present).high,
          addition_bound t.row t.inside,
          plus (a t.row j) (pos (l t.row)),
        )

  pub head_low : {L j : ℕ} {l : ℕ → ℕ} {h : ℤ} → WithinLimit L n a → j < n → Head n a l j h → neg_ℤ (pos L) ≤ℤ h
  head_low {L} {j} {l} {h} w hj t =
      omega (
        arith,
        signed,
        t.is,
        (w t.row j t.inside hj t.maximum.present).low,
        plus (a t.row j) (pos (l t.row)),
        below_zero L,
      )

  -- "sum: −3,200 to 3,200, signed"
  module _ {L : ℕ} {σ : ℕ → ℕ} (w : WithinLimit L n a) (t : Transversal n a σ) where
    order_at : (i : ℕ) → i < n → Order L (a i (σ i))
    order_at i hi = w i (σ i) hi (t.inside i hi) (t.present i hi)

    ups : totalℕ n (λ i. up (a i (σ i))) ≤ n * L
    ups = total_bound n L (λ i. up (a i (σ i))) (λ i hi. one (a i (σ i)) (order_at i hi))
      where
        one : (z : ℤ) → Order L z → up z ≤ L
        one (pos x) o = omega (arith, signed, o.high)
        one (negsuc x) o = omega arith

    downs : totalℕ n (λ i. dn (a i (σ i))) ≤ n * L
    downs = total_bound n L (λ i. dn (a i (σ i))) (λ i hi. one (a i (σ i)) (order_at i hi))
      where
        one : (z : ℤ) → Order L z → dn z ≤ L
        one (pos x) o = omega arith
        one (negsuc x) o = omega (arith, signed, o.low)

    pub sum_high : sum n a σ ≤ℤ pos (n * L)
    sum_high = omega (arith, signed, ups, total_ud n (λ i. a i (σ i)))

    pub sum_low : neg_ℤ (pos (n * L)) ≤ℤ sum n a σ
    sum_low = omega (arith, signed, downs, total_ud n (λ i. a i (σ i)), below_zero (n * L))

  -- document 01's limits of what is found: the bounds above, at the limits of what is handed in
  pub found_within : {l σ : ℕ → ℕ} {h : ℕ → ℤ} {s : ℤ} → n ≤ row_limit → WithinLimit order_limit n a → Solution n a (λ i. 0) l σ h s → FoundWithin n l h s
  found_within {l} {σ} {h} {s} few w sol =
      record {
        addition = low;
        addition_most = λ i hi. omega (arith, low i hi);
        head_least = λ j hj. head_low w hj (sol.heads j hj);
        head_most = λ j hj. omega (arith, signed, head_high {B = 0} w sol.additions (λ i hi. omega arith) hj (sol.heads j hj));
        sum_least = rw sol.is_sum (omega (arith, signed, sum_low w tr, below_zero (n * order_limit)));
        sum_most = rw sol.is_sum (omega (arith, signed, sum_high w tr));
      }
    where
      tr : Transversal n a σ
      tr = sol.stars.of_maxima.transversal

      low : (i : ℕ) → i < n → l i ≤ (n - 1) * (2 * order_limit)
      low i hi = omega (arith, addition_bound {B = 0} w sol.additions (λ i hi. omega arith) i hi)

-- and document 01's own figures for the largest table
pub figures : Figures
figures = (refl, refl, refl)
