-- C1 and C2: a canon's heads bound the sum of every transversal, and just the transversals of column maxima reach the bound. So
-- under every canon the transversals of column maxima are the transversals of greatest sum. Assumes nothing.
use mathlib.Core.Path.{◌≡◌, refl, ◌∙◌, ap, ap₂}
use Prim.Native.Nat.{ℕ, ◌+◌, ◌≤◌, ◌<◌}
use native.Mathlib.Omega.{arith}
use lib.IntN.{ℤ, pos, ◌+ℤ◌}
use lib.Signed.{◌≤ℤ◌, ≤ℤ_refl}
use Rattle.theory.specs.Totals.{total, totalℕ}
use Rattle.theory.specs.Table.{Present}
use Rattle.theory.specs.Canon.{Transversal, raised, Maximum, OfMaxima, Canon, Head, Heads, sum, Greatest, Balance}
use Rattle.theory.proofs.Pigeonhole.{inverse, inverse_right}
use Rattle.theory.proofs.Totals.{total_le, total_plus, total_tight, total_same, reindexing}
use Rattle.theory.proofs.Signed.{up, dn, plus, minus, signed, le_ud, total_ud}

module _ (n : ℕ) (a : ℕ → ℕ → ℤ) where
  -- ---- a place is a column maximum exactly when it is present and raised to the column's head
  pub maximum_head : {l : ℕ → ℕ} {i j : ℕ} {h : ℤ} → Head n a l j h → i < n → Maximum n a l i j → raised n a l i j ≡ h
  maximum_head {l} {i} {j} {h} t hi m =
      omega (arith, signed, t.is, m.unexceeded t.row t.inside t.maximum.present, t.maximum.unexceeded i hi m.present)

  pub head_maximum : {l : ℕ → ℕ} {i j : ℕ} {h : ℤ} → Head n a l j h → Present (a i j) → raised n a l i j ≡ h → Maximum n a l i j
  head_maximum {l} {i} {j} {h} t p e =
      record { present = p; unexceeded = λ k hk q. rw (e, t.is) (t.maximum.unexceeded k hk q) }

  -- no raised order passes its column's head
  pub under_head : {l : ℕ → ℕ} {j : ℕ} {h : ℤ} → Head n a l j h → (i : ℕ) → i < n → Present (a i j) → raised n a l i j ≤ℤ h
  under_head t i hi p = rw t.is (t.maximum.unexceeded i hi p)

  -- a column has one head
  pub head_once : {l : ℕ → ℕ} {j : ℕ} {h k : ℤ} → Head n a l j h → Head n a l j k → h ≡ k
  head_once s t = s.is ∙ maximum_head t s.inside s.maximum

  -- ---- the heads of a canon: each column has its row in the transversal of column maxima
  pub heads_of : (ℕ → ℕ) → (ℕ → ℕ) → ℕ → ℤ
  heads_of l σ j = raised n a l (inverse n σ j) j

  pub heads_of_are_heads : {l σ : ℕ → ℕ} → OfMaxima n a l σ → Heads n a l (heads_of l σ)
  unfolding heads_of
  heads_of_are_heads {l} {σ} c j hj =
      let r = inverse_right n σ c.transversal.apart c.transversal.inside j hj in
      record { row = inverse n σ j; inside = r.0; maximum = rw r.1 at (c.maximum (inverse n σ j) r.0); is = refl }

  -- ---- C1
  -- Under each place of a transversal τ stands a raised order, at most the head of its column. Summed over the rows, with the
  -- columns in another order (P2): the sum of τ plus all additions is at most the total of the heads; and where the two totals are
  -- equal, they are equal place by place.
  module _ (l : ℕ → ℕ) (h : ℕ → ℤ) (heads : Heads n a l h) (τ : ℕ → ℕ) (t : Transversal n a τ) where
    -- the two sides of a place, as natural numbers
    abbrev low : ℕ → ℕ
    low i = (up (a i (τ i)) + l i) + dn (h (τ i))

    abbrev high : ℕ → ℕ
    high i = up (h (τ i)) + dn (a i (τ i))

    low_high : (i : ℕ) → i < n → low i ≤ high i
    low_high i hi =
        omega (arith, le_ud _ _ (under_head (heads (τ i) (t.inside i hi)) i hi (t.present i hi)), plus (a i (τ i)) (pos (l i)))

    low_total : totalℕ n low ≡ (totalℕ n (λ i. up (a i (τ i))) + totalℕ n l) + totalℕ n (λ j. dn (h j))
    low_total = total_plus n (λ i. up (a i (τ i)) + l i) (λ i. dn (h (τ i)))
        ∙ ap₂ ◌+◌ (total_plus n (λ i. up (a i (τ i))) l) (reindexing n τ (λ j. dn (h j)) t.apart t.inside)

    high_total : totalℕ n high ≡ totalℕ n (λ j. up (h j)) + totalℕ n (λ i. dn (a i (τ i)))
    high_total = total_plus n (λ i. up (h (τ i))) (λ i. dn (a i (τ i)))
        ∙ ap (λ (x : ℕ). x + totalℕ n (λ i. dn (a i (τ i)))) (reindexing n τ (λ j. up (h j)) t.apart t.inside)

    pub bounded : (sum n a τ +ℤ pos (totalℕ n l)) ≤ℤ total n h
    bounded = omega (
      arith,
      signed,
      total_le n low high low_high,
      low_total,
      high_total,
      total_ud n (λ i. a i (τ i)),
      total_ud n h,
      plus (sum n a τ) (pos (totalℕ n l)),
    )

    pub tight_places : total n h ≤ℤ (sum n a τ +ℤ pos (totalℕ n l)) → (i : ℕ) → i < n → raised n a l i (τ i) ≡ h (τ i)
    tight_places r i hi =
        let s : totalℕ n high ≤ totalℕ n low = omega (
          arith,
          signed,
          low_total,
          high_total,
          total_ud n (λ i. a i (τ i)),
          total_ud n h,
          plus (sum n a τ) (pos (totalℕ n l)),
        ) in
        omega (arith, signed, total_tight n low high low_high s i hi, plus (a i (τ i)) (pos (l i)))

    pub tight_total : ((i : ℕ) → i < n → raised n a l i (τ i) ≡ h (τ i)) → sum n a τ +ℤ pos (totalℕ n l) ≡ total n h
    tight_total e =
        let s : totalℕ n low ≡ totalℕ n high = total_same n low high (λ i hi. same i (e i hi)) in
        omega (
          arith,
          signed,
          low_total,
          high_total,
          total_ud n (λ i. a i (τ i)),
          total_ud n h,
          plus (sum n a τ) (pos (totalℕ n l)),
        )
      where
        same : (i : ℕ) → raised n a l i (τ i) ≡ h (τ i) → low i ≡ high i
        same i e = omega (arith, signed, plus (a i (τ i)) (pos (l i)))

  -- a transversal of column maxima has the heads less the additions for its sum
  maxima_total : {l σ : ℕ → ℕ} {h : ℕ → ℤ} → Heads n a l h → OfMaxima n a l σ → sum n a σ +ℤ pos (totalℕ n l) ≡ total n h
  maxima_total {l} {σ} {h} heads c =
      tight_total l h heads σ c.transversal (λ i hi. maximum_head (heads (σ i) (c.transversal.inside i hi)) hi (c.maximum i hi))

  -- C1, the whole of demand 3's last sentence, both directions
  pub balance : {l σ : ℕ → ℕ} {h : ℕ → ℤ} → Heads n a l h → OfMaxima n a l σ → Balance n a l h (sum n a σ)
  balance {l} {σ} {h} heads c =
      record {
        heads_less_additions = omega (arith, signed, e, plus (sum n a σ) (pos (totalℕ n l)), minus (total n h) (pos (totalℕ n l)));
        none_greater = λ τ t.
            omega (arith, signed, e, bounded l h heads τ t, plus (sum n a σ) (pos (totalℕ n l)), plus (sum n a τ) (pos (totalℕ n l)));
        only_maxima_reach = λ τ t s i hi.
            head_maximum (heads (τ i) (t.inside i hi)) (t.present i hi)
            (tight_places l h heads τ t (rw (s, e) (≤ℤ_refl (total n h))) i hi);
        maxima_reach = λ τ t m. same τ (maxima_total heads (record { transversal = t; maximum = m }));
      }
    where
      e : sum n a σ +ℤ pos (totalℕ n l) ≡ total n h
      e = maxima_total heads c

      same : (τ : ℕ → ℕ) → sum n a τ +ℤ pos (totalℕ n l) ≡ total n h → sum n a τ ≡ sum n a σ
      same τ f = omega (arith, signed, e, plus (sum n a σ) (pos (totalℕ n l)), plus (sum n a τ) (pos (totalℕ n l)))

  -- ---- C2
  -- Under any canon a transversal of column maxima has the greatest sum, and a transversal of greatest sum consists of column
  -- maxima: it reaches what the canon's own transversal reaches.
  pub maxima_greatest : {l σ : ℕ → ℕ} → OfMaxima n a l σ → Greatest n a σ
  maxima_greatest c = record { transversal = c.transversal; greatest = (balance (heads_of_are_heads c) c).none_greater }

  pub greatest_maxima : {l σ : ℕ → ℕ} → Canon n a l → Greatest n a σ → OfMaxima n a l σ
  greatest_maxima {l} {σ} c g =
      let b = balance (heads_of_are_heads c.of_maxima) c.of_maxima in
      record {
        transversal = g.transversal;
        maximum = b.only_maxima_reach σ g.transversal
            (omega (arith, signed, b.none_greater σ g.transversal, g.greatest c.columns c.of_maxima.transversal));
      }

  -- the transversals of column maxima of one canon are those of every other
  pub maxima_everywhere : {l m σ : ℕ → ℕ} → OfMaxima n a l σ → Canon n a m → OfMaxima n a m σ
  maxima_everywhere c d = greatest_maxima d (maxima_greatest c)
