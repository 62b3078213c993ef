-- What is decided of a table: whether there are columns for all rows, no two the same, on allowed places and with a last property, and
-- so whether a complete transversal exists, whether additions are a canon, and whether one transversal surpasses or precedes another.
-- Assumes nothing.
use mathlib.Core.Path.{◌≡◌, sym, ◌∙◌}
use mathlib.Core.Logic.{◌⊎◌, inl, inr}
use mathlib.Core.Bool.{Bool, true, false}
use mathlib.Core.List.{List}
use Prim.Native.Nat.{ℕ, ◌+◌, ◌<◌}
use native.Mathlib.Decide.{ℕ_discrete, dec_le, dec_lt}
use native.Mathlib.Omega.{arith}
use lib.Dec.{T}
use lib.IntN.{ℤ, ℤ_discrete}
use lib.ListN.{length}
use lib.Signed.{◌≤ℤ◌, ◌<ℤ◌}
use Rattle.theory.specs.Lists.{nums}
use Rattle.theory.specs.Table.{absent, Present}
use Rattle.theory.specs.Canon.{Transversal, raised, Maximum, OfMaxima, Canon, sum}
use Rattle.theory.proofs.Pigeonhole.{exists, dec_flag, dec_both, dec_not}
use Rattle.theory.proofs.Signed.{up, dn, signed}
use Rattle.theory.proofs.Search.{found, found_told, found_tells, Chosen}
use Rattle.theory.proofs.Unique.{sum_same}

-- ---- decisions of statements
pub dec_implies : {P Q : Type 0} → Dec P → Dec Q → Dec (P → Q)
dec_implies (yes p) (yes q) = yes (λ h. q)
dec_implies (yes p) (no f) = no (λ h. f (h p))
dec_implies (no f) d = yes (λ p. absurd (f p))

pub dec_all : (P : ℕ → Type 0) → ((i : ℕ) → Dec (P i)) → (n : ℕ) → Dec ((i : ℕ) → i < n → P i)
dec_all P dec n = go (exists (λ i. P i → ⊥) (λ i. dec_not (dec i)) n)
  where
    go : ((i : ℕ) × (i < n) × (P i → ⊥)) ⊎ ((i : ℕ) → i < n → (P i → ⊥) → ⊥) → Dec ((i : ℕ) → i < n → P i)
    go (inl w) = no (λ all. w.2 (all w.0 w.1))
    go (inr none) = yes (λ i h. elim (dec i) [ yes p ↦ p | no q ↦ absurd (none i h q) ])

pub present_known : (v : ℤ) → Dec (Present v)
present_known v = dec_not (ℤ_discrete v absent)

pub at_most_known : (x y : ℤ) → Dec (x ≤ℤ y)
at_most_known x y =
    elim (dec_le (up x + dn y) (up y + dn x)) [ yes h ↦ yes (omega (arith, signed)) | no f ↦ no (λ h. f (omega (arith, signed))) ]

pub less_known : (x y : ℤ) → Dec (x <ℤ y)
less_known x y =
    elim (dec_lt (up x + dn y) (up y + dn x)) [ yes h ↦ yes (omega (arith, signed)) | no f ↦ no (λ h. f (omega (arith, signed))) ]

pub not_less : (x y : ℤ) → (x <ℤ y → ⊥) → y ≤ℤ x
not_less x y f = elim (dec_lt (up x + dn y) (up y + dn x)) [ yes h ↦ absurd (f (omega (arith, signed))) | no g ↦ omega (arith, signed) ]

-- the answer of a decision, as the search asks for it
flag : {P : Type 0} → Dec P → Bool
flag (yes p) = true
flag (no f) = false

flag_told : {P : Type 0} (d : Dec P) → T (flag d) → P
unfolding flag
flag_told (yes p) t = p
flag_told (no f) t = absurd t

flag_tells : {P : Type 0} (d : Dec P) → P → T (flag d)
unfolding flag
flag_tells (yes p) h = tt
flag_tells (no f) h = f h

-- ---- columns for the n rows: inside, no two the same, each on a place that P allows, and all together with the property Q, which
-- asks of the n rows alone
pub record Columns (n : ℕ) (P : ℕ → ℕ → Type 0) (Q : (ℕ → ℕ) → Type 0) (σ : ℕ → ℕ) : Type 0 where
  pub inside : (i : ℕ) → i < n → σ i < n
  pub allowed : (i : ℕ) → i < n → P i (σ i)
  pub apart : (i k : ℕ) → i < n → k < n → σ i ≡ σ k → i ≡ k
  pub last : Q σ

module _ (n : ℕ) (P : ℕ → ℕ → Type 0) (dec : (i j : ℕ) → Dec (P i j)) (Q : (ℕ → ℕ) → Type 0) (decQ : (σ : ℕ → ℕ) → Dec (Q σ))
    (of_rows : (σ τ : ℕ → ℕ) → ((i : ℕ) → i < n → σ i ≡ τ i) → Q σ → Q τ) where
  allowed : ℕ → ℕ → Bool
  allowed i j = flag (dec i j)

  accept : List ℕ → Bool
  accept q = flag (decQ (nums q))

  pub columns_known : ((σ : ℕ → ℕ) × Columns n P Q σ) ⊎ ((σ : ℕ → ℕ) → Columns n P Q σ → ⊥)
  unfolding allowed accept
  columns_known = go (dec_flag (found n allowed accept))
    where
      of : (q : List ℕ) → length q ≡ n → Chosen n allowed accept q → T (accept q) → Columns n P Q (nums q)
      of q e c t =
          record {
            inside = λ i hi. c.inside i (omega arith);
            allowed = λ i hi. flag_told (dec i (nums q i)) (c.places i (omega arith));
            apart = λ i k hi hk. c.apart i k (omega arith) (omega arith);
            last = flag_told (decQ (nums q)) t;
          }

      go : Dec (T (found n allowed accept)) → ((σ : ℕ → ℕ) × Columns n P Q σ) ⊎ ((σ : ℕ → ℕ) → Columns n P Q σ → ⊥)
      go (yes t) = let (q, e, c, u) = found_told n allowed accept t in inl (nums q, of q e c u)
      go (no f) =
          inr (λ σ c. f (found_tells n allowed accept σ c.inside (λ i hi. flag_tells (dec i (σ i)) (c.allowed i hi)) c.apart
          (λ q e same. flag_tells (decQ (nums q)) (of_rows σ (nums q) (λ i hi. sym (same i hi)) c.last))))

-- ---- of a table
module _ (n : ℕ) (a : ℕ → ℕ → ℤ) where
  abbrev AnyColumns : (ℕ → ℕ) → Type 0
  AnyColumns σ = Unit

  pub transversal_known : ((σ : ℕ → ℕ) × Transversal n a σ) ⊎ ((σ : ℕ → ℕ) → Transversal n a σ → ⊥)
  transversal_known = go (columns_known n (λ i j. Present (a i j)) (λ i j. present_known (a i j)) AnyColumns (λ σ. yes tt) (λ σ τ e u. u))
    where
      go : ((σ : ℕ → ℕ) × Columns n (λ i j. Present (a i j)) AnyColumns σ) ⊎ ((σ : ℕ → ℕ) → Columns n (λ i j. Present (a i j)) AnyColumns σ → ⊥)
          → ((σ : ℕ → ℕ) × Transversal n a σ) ⊎ ((σ : ℕ → ℕ) → Transversal n a σ → ⊥)
      go (inl (σ, c)) = inl (σ, record { inside = c.inside; present = c.allowed; apart = c.apart })
      go (inr none) = inr (λ σ t. none σ (record { inside = t.inside; allowed = t.present; apart = t.apart; last = tt }))

  -- a transversal of a greater sum, or that there is none
  pub greater_known : (σ : ℕ → ℕ) → ((τ : ℕ → ℕ) × Transversal n a τ × (sum n a σ <ℤ sum n a τ)) ⊎ ((τ : ℕ → ℕ) → Transversal n a τ → sum n a τ ≤ℤ sum n a σ)
  greater_known σ =
      go (columns_known n (λ i j. Present (a i j)) (λ i j. present_known (a i j)) Greater (λ τ. less_known (sum n a σ) (sum n a τ))
      (λ τ ρ e lt. rw (← (sum_same n a {σ = τ} {τ = ρ} e)) lt))
    where
      Greater : (ℕ → ℕ) → Type 0
      Greater τ = sum n a σ <ℤ sum n a τ

      go : ((τ : ℕ → ℕ) × Columns n (λ i j. Present (a i j)) Greater τ) ⊎ ((τ : ℕ → ℕ) → Columns n (λ i j. Present (a i j)) Greater τ → ⊥)
          → ((τ : ℕ → ℕ) × Transversal n a τ × (sum n a σ <ℤ sum n a τ)) ⊎ ((τ : ℕ → ℕ) → Transversal n a τ → sum n a τ ≤ℤ sum n a σ)
      go (inl (τ, c)) = inl (τ, record { inside = c.inside; present = c.allowed; apart = c.apart }, c.last)
      go (inr none) =
          inr (λ τ t.
          not_less (sum n a σ) (sum n a τ) (λ lt. none τ (record { inside = t.inside; allowed = t.present; apart = t.apart; last = lt })))

  -- a column maximum, and a canon
  pub maximum_known : (l : ℕ → ℕ) (i j : ℕ) → Dec (Maximum n a l i j)
  maximum_known l i j =
      go (present_known (a i j))
      (dec_all (λ k. Present (a k j) → raised n a l k j ≤ℤ raised n a l i j)
      (λ k. dec_implies (present_known (a k j)) (at_most_known (raised n a l k j) (raised n a l i j))) n)
    where
      go : Dec (Present (a i j)) → Dec ((k : ℕ) → k < n → Present (a k j) → raised n a l k j ≤ℤ raised n a l i j) → Dec (Maximum n a l i j)
      go (yes p) (yes u) = yes (record { present = p; unexceeded = u })
      go (yes p) (no f) = no (λ m. f m.unexceeded)
      go (no f) u = no (λ m. f m.present)

  -- columns of column maxima are a transversal of them
  of_maxima_columns : {Q : (ℕ → ℕ) → Type 0} {l σ : ℕ → ℕ} → Columns n (Maximum n a l) Q σ → OfMaxima n a l σ
  of_maxima_columns c =
      record {
        transversal = record { inside = c.inside; present = λ i hi. (c.allowed i hi).present; apart = c.apart };
        maximum = c.allowed;
      }

  columns_of_maxima : {Q : (ℕ → ℕ) → Type 0} {l σ : ℕ → ℕ} → OfMaxima n a l σ → Q σ → Columns n (Maximum n a l) Q σ
  columns_of_maxima c q = record { inside = c.transversal.inside; allowed = c.maximum; apart = c.transversal.apart; last = q }

  pub canon_known : (l : ℕ → ℕ) → Dec (Canon n a l)
  canon_known l = go (columns_known n (Maximum n a l) (maximum_known l) AnyColumns (λ σ. yes tt) (λ σ τ e u. u))
    where
      go : ((σ : ℕ → ℕ) × Columns n (Maximum n a l) AnyColumns σ) ⊎ ((σ : ℕ → ℕ) → Columns n (Maximum n a l) AnyColumns σ → ⊥) → Dec (Canon n a l)
      go (inl (σ, c)) = yes (record { columns = σ; of_maxima = of_maxima_columns c })
      go (inr none) = no (λ c. none c.columns (columns_of_maxima c.of_maxima tt))

  -- a transversal of column maxima that agrees with σ in the rows before k and comes before it in row k, or that there is none
  abbrev pub Earlier : ℕ → (ℕ → ℕ) → (ℕ → ℕ) → Type 0
  Earlier k σ τ = ((i : ℕ) → i < k → τ i ≡ σ i) × (τ k < σ k)

  pub earlier_known : (l σ : ℕ → ℕ) (k : ℕ) → k < n → ((τ : ℕ → ℕ) × OfMaxima n a l τ × Earlier k σ τ) ⊎ ((τ : ℕ → ℕ) → OfMaxima n a l τ → Earlier k σ τ → ⊥)
  earlier_known l σ k hk =
      go (columns_known n (Maximum n a l) (maximum_known l) (Earlier k σ)
      (λ τ. dec_both (dec_all (λ i. τ i ≡ σ i) (λ i. ℕ_discrete (τ i) (σ i)) k) (dec_lt (τ k) (σ k)))
      (λ τ ρ e q. (λ i hi. sym (e i (omega arith)) ∙ q.0 i hi, omega (arith, e k hk, q.1))))
    where
      go : ((τ : ℕ → ℕ) × Columns n (Maximum n a l) (Earlier k σ) τ) ⊎ ((τ : ℕ → ℕ) → Columns n (Maximum n a l) (Earlier k σ) τ → ⊥)
          → ((τ : ℕ → ℕ) × OfMaxima n a l τ × Earlier k σ τ) ⊎ ((τ : ℕ → ℕ) → OfMaxima n a l τ → Earlier k σ τ → ⊥)
      go (inl (τ, c)) = inl (τ, of_maxima_columns c, c.last)
      go (inr none) = inr (λ τ c q. none τ (columns_of_maxima c q))
