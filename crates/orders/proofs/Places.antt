-- Places of a square table row by row, and the head of a column one row after the other. Assumes nothing.
use mathlib.Core.Path.{◌≡◌, refl, ◌∙◌}
use mathlib.Core.List.{List}
use mathlib.Core.Logic.{◌⊎◌, inl, inr}
use Prim.Native.Nat.{ℕ, suc, ◌+◌, ◌*◌, ◌/◌, ◌%◌, ◌≤◌, ◌<◌}
use native.Mathlib.Nat.{mul-le-mul_right, mul-add-div_right, div-eq_of_lt, mul-add-mod_self_right, mod-eq_of_lt, div-add-mod', div-lt_iff_lt-mul, mod-lt}
use native.Mathlib.Decide.{ℕ_discrete}
use native.Mathlib.Numerals.{add-one}
use native.Mathlib.Omega.{arith}
use lib.IntN.{ℤ, pos, ◌+ℤ◌}
use lib.ListN.{length, get_or, set, length-set}
use lib.Signed.{◌≤ℤ◌, ≤ℤ_refl, ◌<ℤ◌}
use Rattle.theory.specs.Limits.{row_limit}
use Rattle.theory.specs.Lists.{nums}
use Rattle.theory.specs.Table.{absent, Present, entry, Entries, WithinLimit}
use Rattle.theory.specs.Canon.{raised, EmptyColumn, LowestHolder, Holders, held}
use Rattle.theory.proofs.Signed.{signed, plus}
use Rattle.theory.proofs.Counts.{count_most}
use Rattle.theory.proofs.Decisions.{present_known, less_known, not_less}
use Rattle.theory.proofs.Ties.{upto, new_holder, new_count, old_holder, count_more, count_kept}
use Rattle.orders.specs.Places.{no_order, TopOf, Higher, Lowest, Counted}
use Rattle.orders.specs.declared.table.Top.{Top}
use Rattle.orders.proofs.Entries.{present_above}
use Rattle.orders.proofs.Stores.{Put, put, after}
use mir.Syntax.{w16}
use mir.Val.{SFits}

-- the place of row i and column j is one of the n × n
pub cell : (n i j : ℕ) → i < n → j < n → i * n + j < n * n
cell n i j hi hj = omega (arith, mul-le-mul_right n hi)

-- and tells its row and its column
module _ (n i j : ℕ) (inside : j < n) where
  pub place_row : (i * n + j) / n ≡ i
  place_row = mul-add-div_right {m = n} (omega arith) i j ∙ omega (arith, div-eq_of_lt {n = j} {m = n} inside)

  pub place_col : (i * n + j) % n ≡ j
  place_col = mul-add-mod_self_right i n j ∙ mod-eq_of_lt {n = j} {m = n} inside

-- the row and the column of place p
module _ (n p : ℕ) (inside : p < n * n) where
  pub some_row : 0 < n
  some_row = elim (ℕ_discrete n 0) [ yes e ↦ absurd (let h : n * n ≡ 0 = rw e in omega arith) | no ne ↦ omega arith ]

  pub row_inside : p / n < n
  row_inside = (div-lt_iff_lt-mul {k = n} {x = p} {y = n} some_row).1 inside

  pub col_inside : p % n < n
  col_inside = mod-lt p {m = n} some_row

  pub row_col : p / n * n + p % n ≡ p
  row_col = div-add-mod' p n

pub square_small : (n : ℕ) → n ≤ row_limit → n * n ≤ row_limit * row_limit
square_small n h = omega (arith, mul-le-mul_right n h)

-- a table whose entries stand is within the limit at each place
pub within : (limit n : ℕ) (t : List ℤ) → length t ≡ n * n → Entries limit t → WithinLimit limit n (entry t n)
within limit n t e all i j hi hj p = all (i * n + j) (omega (arith, cell n i j hi hj)) p

-- ---- the ways through the choice of the larger
module _ (v : ℤ) (l : ℕ) (height : ℤ) where
  pub higher_none : v ≡ absent → Higher v l height height
  higher_none e = record { this = λ p. absurd (p e); other = ≤ℤ_refl height; one = inl refl }

  pub higher_kept : (v +ℤ pos l) ≤ℤ height → Higher v l height height
  higher_kept le = record { this = λ p. le; other = ≤ℤ_refl height; one = inl refl }

  pub higher_taken : (h : ℤ) → Present v → h ≡ v +ℤ pos l → height <ℤ h → Higher v l height h
  higher_taken h p e lt = record { this = λ q. rw e (≤ℤ_refl (v +ℤ pos l)); other = omega (arith, signed); one = inr (p, e) }

-- ---- and through the count: an absent place, an order below the height, one that reaches it, one above
module _ (v : ℤ) (l : ℕ) (height : ℤ) (count : ℕ) where
  pub counted_none : v ≡ absent → Counted v l height count count
  counted_none e = record { passed = λ lt. refl; tied = λ p. absurd (p e); alone = λ p. absurd (p e) }

  pub counted_below : (v +ℤ pos l) <ℤ height → Counted v l height count count
  counted_below lt = record { passed = λ h. refl; tied = λ p e. absurd (omega (arith, signed)); alone = λ p gt. absurd (omega (arith, signed)) }

  pub counted_tied : Present v → v +ℤ pos l ≡ height → Counted v l height count (count + 1)
  counted_tied p e =
      record { passed = λ lt. absurd (omega (arith, signed, lt p)); tied = λ q f. refl; alone = λ q gt. absurd (omega (arith, signed)) }

  pub counted_alone : Present v → height <ℤ (v +ℤ pos l) → Counted v l height count 1
  counted_alone p gt =
      record { passed = λ lt. absurd (omega (arith, signed, lt p)); tied = λ q e. absurd (omega (arith, signed)); alone = λ q h. refl }

-- ---- a column, one row after the other
-- What is known of column j once its first k rows are taken in: no order yet, with a height below every raised one, or height, lowest
-- row and count of these rows.
pub data Sought (t : List ℤ) (n k : ℕ) (l : List ℕ) (j : ℕ) (h : ℤ) (row c : ℕ) : Type 0 where
  none_yet : EmptyColumn k (entry t n) j → h ≡ absent → c ≡ 0 → Sought t n k l j h row c
  some : absent <ℤ h → LowestHolder k (entry t n) (nums l) j row → h ≡ raised k (entry t n) (nums l) row j → Holders k (entry t n) (nums l) j c
      → Sought t n k l j h row c

-- no more rows hold the height than were taken in
pub sought_few : {t : List ℤ} {n k : ℕ} {l : List ℕ} {j : ℕ} {h : ℤ} {row c : ℕ} → Sought t n k l j h row c → c ≤ k
sought_few (none_yet f e z) = omega arith
sought_few {k = k} (some up o e s) = count_most k s

-- the raised order of row x in column j
abbrev height : List ℤ → ℕ → List ℕ → ℕ → ℕ → ℤ
height t n l j x = entry t n x j +ℤ pos (nums l x)

-- One more row, row k, which is absent or below the height, reaches it, or is above it.
module _ (t : List ℤ) (n k : ℕ) (l : List ℕ) (j : ℕ) (fits : SFits w16 (entry t n k j)) {h : ℤ} {row c : ℕ} (o : Sought t n k l j h row c) where
  -- a present order, raised, is above `absent`
  over : Present (entry t n k j) → absent <ℤ height t n l j k
  over p = let ne = present_above (entry t n k j) fits p in omega (arith, signed, plus (entry t n k j) (pos (nums l k)))

  sought_passed : (Present (entry t n k j) → height t n l j k <ℤ h) → Sought t n (suc k) l j h row c
  sought_passed lt = go o
    where
      go : Sought t n k l j h row c → Sought t n (suc k) l j h row c
      go (none_yet f e z) =
          none_yet (upto (entry t n) (nums l) j k {P = λ x. Present (entry t n x j) → ⊥} f (λ p. omega (arith, signed, e, over p, lt p))) e z
      go (some up u e s) =
          let below : Present (entry t n k j) → height t n l j k <ℤ height t n l j row = λ p. omega (arith, signed, e, lt p) in
          let under : Present (entry t n k j) → height t n l j k ≤ℤ height t n l j row = λ p. omega (arith, signed, below p) in
          some up (old_holder (entry t n) (nums l) j k u under) e (count_kept (entry t n) (nums l) j k u under s below)

  sought_tied : Present (entry t n k j) → height t n l j k ≡ h → Sought t n (suc k) l j h row (suc c)
  sought_tied p q = go o
    where
      go : Sought t n k l j h row c → Sought t n (suc k) l j h row (suc c)
      go (none_yet f e z) = absurd (omega (arith, signed, e, q, over p))
      go (some up u e s) =
          let under : Present (entry t n k j) → height t n l j k ≤ℤ height t n l j row = λ y. omega (arith, signed, e, q) in
          some up (old_holder (entry t n) (nums l) j k u under) e (count_more (entry t n) (nums l) j k u under s p (q ∙ e))

  sought_alone : Present (entry t n k j) → h <ℤ height t n l j k → Sought t n (suc k) l j (height t n l j k) k 1
  sought_alone p q = some (over p) (new_holder (entry t n) (nums l) j k p (above o)) refl (new_count (entry t n) (nums l) j k p (above o))
    where
      above : Sought t n k l j h row c → (x : ℕ) → x < k → Present (entry t n x j) → height t n l j x <ℤ height t n l j k
      above (none_yet f e z) x hx y = absurd (f x hx y)
      above (some up u e s) x hx y = omega (arith, signed, e, q, u.maximum.unexceeded x hx y)

  -- what the three functions make of height, row and count
  pub sought_more : {h' : ℤ} {row' c' : ℕ} → Higher (entry t n k j) (nums l k) h h' → Lowest row h h' k row' → Counted (entry t n k j) (nums l k) h c c'
      → Sought t n (suc k) l j h' row' c'
  sought_more {h'} {row'} {c'} w u v = go (present_known (entry t n k j)) (less_known (height t n l j k) h) (less_known h (height t n l j k)) w.one
    where
      pass : (Present (entry t n k j) → height t n l j k <ℤ h) → h' ≡ h → Sought t n (suc k) l j h' row' c'
      pass lt e = rw (e, u.stays (omega (arith, signed, e)), v.passed lt) (sought_passed lt)

      go : Dec (Present (entry t n k j)) → Dec (height t n l j k <ℤ h) → Dec (h <ℤ height t n l j k)
          → (h' ≡ h) ⊎ (Present (entry t n k j) × (h' ≡ height t n l j k)) → Sought t n (suc k) l j h' row' c'
      go (no out) x y (inl e) = pass (λ p. absurd (out p)) e
      go (no out) x y (inr (p, e)) = absurd (out p)
      go (yes p) (yes lt) y (inl e) = pass (λ q. lt) e
      go (yes p) (yes lt) y (inr (q, e)) = absurd (omega (arith, signed, e, lt, w.other))
      go (yes p) (no ge) (yes gt) (inl e) = absurd (omega (arith, signed, e, gt, w.this p))
      go (yes p) (no ge) (yes gt) (inr (q, e)) = rw (e, u.new (omega (arith, signed, e, gt)), v.alone p gt) (sought_alone p gt)
      go (yes p) (no ge) (no le) one =
          let same : height t n l j k ≡ h = omega (arith, signed, not_less _ _ ge, not_less _ _ le) in
          let e : h' ≡ h = elim one [ inl e ↦ e | inr q ↦ q.1 ∙ same ] in
          rw (e, u.stays (omega (arith, signed, e)), v.tied p same, add-one c) (sought_tied p same)

pub top_found : {t : List ℤ} {n : ℕ} {l : List ℕ} {j : ℕ} {h : ℤ} {row c : ℕ} → Sought t n n l j h row c → absent <ℤ h
    → (row < n) × TopOf t n l j (record { head = h; row = row + 1; count = c })
top_found (none_yet f e z) lt = absurd (omega (arith, signed, e))
top_found {row = row} (some up u e s) lt = (u.inside, held row u e refl s)

-- ---- all columns
-- head, row and count of the first k columns stand in an array
pub record TopsTo (t : List ℤ) (n k : ℕ) (l : List ℕ) (r : List Top) : Type 0 where
  pub tops : (j : ℕ) → j < k → TopOf t n l j (get_or r j no_order)
  pub long : length r ≡ row_limit

-- one column more
pub tops_step : {t : List ℤ} {n k : ℕ} {l : List ℕ} {r : List Top} {v : Top} → TopsTo t n k l r → k < row_limit → TopOf t n l k v
    → TopsTo t n (k + 1) l (set r k v)
tops_step {t} {n} {k} {l} {r} {v} w small top = record { tops = λ j hj. after (λ x. TopOf t n l x) in_tops j (λ e. top) (λ ne. w.tops j (omega arith)); long = length-set r k v ∙ w.long }
  where
    in_tops : Put (λ x. get_or r x no_order) (λ x. get_or (set r k v) x no_order) k v
    in_tops = put no_order r k v (omega (arith, w.long))
