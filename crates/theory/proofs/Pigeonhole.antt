-- P1: a map that takes no value twice and takes a set of numbers below n into itself takes that set onto itself. With the set of
-- all numbers below n this is the pigeonhole. Sets are decided: `(i : ℕ) → Dec (X i)`. Assumes nothing.
use mathlib.Core.Path.{◌≡◌, sym, ◌∙◌}
use mathlib.Core.Logic.{◌⊎◌, inl, inr, ◌≢◌}
use mathlib.Core.Bool.{Bool, true, false}
use Prim.Native.Nat.{ℕ, zero, suc, ◌<◌}
use native.Mathlib.Decide.{ℕ_discrete}
use native.Mathlib.Omega.{arith}
use lib.Dec.{T}

-- f takes the numbers below n to numbers below m
abbrev pub Into : ℕ → ℕ → (ℕ → ℕ) → Type 0
Into n m f = (i : ℕ) → i < n → f i < m

-- f takes no value twice below n
abbrev pub Apart : ℕ → (ℕ → ℕ) → Type 0
Apart n f = (i k : ℕ) → i < n → k < n → f i ≡ f k → i ≡ k

-- x where the decision is yes, y where it is no
abbrev pub choose : {P : Type 0} → Dec P → ℕ → ℕ → ℕ
choose (yes p) x y = x
choose (no p) x y = y

pub choose_yes : {P : Type 0} (d : Dec P) (x y : ℕ) → P → choose d x y ≡ x
choose_yes (yes p) x y h = cc
choose_yes (no q) x y h = absurd (q h)

pub choose_no : {P : Type 0} (d : Dec P) (x y : ℕ) → (P → ⊥) → choose d x y ≡ y
choose_no (yes p) x y h = absurd (h p)
choose_no (no q) x y h = cc

-- decisions of a flag, of both of two statements, of one implied by a decided one
pub dec_flag : (b : Bool) → Dec (T b)
dec_flag true = yes tt
dec_flag false = no (λ t. t)

pub dec_both : {P Q : Type 0} → Dec P → Dec Q → Dec (P × Q)
dec_both (yes p) (yes q) = yes (p, q)
dec_both (yes p) (no q) = no (λ r. q r.1)
dec_both (no p) (yes q) = no (λ r. p r.0)
dec_both (no p) (no q) = no (λ r. p r.0)

pub dec_not : {P : Type 0} → Dec P → Dec (P → ⊥)
dec_not (yes p) = no (λ f. f p)
dec_not (no q) = yes q

-- a number below n with the property, or the knowledge that there is none
pub exists : (P : ℕ → Type 0) → ((i : ℕ) → Dec (P i)) → (n : ℕ) → ((i : ℕ) × (i < n) × P i) ⊎ ((i : ℕ) → i < n → P i → ⊥)
exists P dec zero = inr (λ i h p. omega arith)
exists P dec (suc n) = go (dec n) (exists P dec n)
  where
    go : Dec (P n) → ((i : ℕ) × (i < n) × P i) ⊎ ((i : ℕ) → i < n → P i → ⊥) → ((i : ℕ) × (i < suc n) × P i) ⊎ ((i : ℕ) → i < suc n → P i → ⊥)
    go (yes p) r = inl (n, omega arith, p)
    go (no q) (inl w) = inl (w.0, omega arith, w.2)
    go (no q) (inr none) = inr (λ i h p. last i p (ℕ_discrete i n) h)
      where
        last : (i : ℕ) → P i → Dec (i ≡ n) → i < suc n → ⊥
        last i p (yes e) h = q (rw (← e) p)
        last i p (no ne) h = none i (omega arith) p

-- whether there is a number below n with the property, as a decision
pub dec_exists : (P : ℕ → Type 0) → ((i : ℕ) → Dec (P i)) → (n : ℕ) → Dec ((i : ℕ) × (i < n) × P i)
dec_exists P dec n = go (exists P dec n)
  where
    go : ((i : ℕ) × (i < n) × P i) ⊎ ((i : ℕ) → i < n → P i → ⊥) → Dec ((i : ℕ) × (i < n) × P i)
    go (inl w) = yes w
    go (inr none) = no (λ w. none w.0 w.1 w.2)

-- f with the value v turned into w
abbrev turn : (ℕ → ℕ) → ℕ → ℕ → ℕ → ℕ
turn f v w i = choose (ℕ_discrete (f i) v) w (f i)

module _ (n m w : ℕ) (f : ℕ → ℕ) (apart : Apart n f) (into : Into n (suc m) f) (hw : w < suc m) (free : (i : ℕ) → i < n → f i ≢ w) where
  turn_into : Into n m (turn f m w)
  turn_into i h = go (ℕ_discrete (f i) m)
    where
      go : (d : Dec (f i ≡ m)) → choose d w (f i) < m
      go (yes e) = omega (arith, free i h)
      go (no ne) = omega (arith, into i h)

  turn_apart : Apart n (turn f m w)
  turn_apart i k hi hk = go (ℕ_discrete (f i) m) (ℕ_discrete (f k) m)
    where
      go : (d : Dec (f i ≡ m)) (e : Dec (f k ≡ m)) → choose d w (f i) ≡ choose e w (f k) → i ≡ k
      go (yes p) (yes q) e = apart i k hi hk (p ∙ sym q)
      go (yes p) (no q) e = absurd (free k hk (sym e))
      go (no p) (yes q) e = absurd (free i hi e)
      go (no p) (no q) e = apart i k hi hk e

-- The pigeonhole: n + 1 numbers do not go apart into n places. By induction on n: the place n − 1, if it is taken, is exchanged
-- for the place that the last number takes, which the others leave free.
pub crowded : (n : ℕ) (f : ℕ → ℕ) → Apart (suc n) f → Into (suc n) n f → ⊥
crowded zero f apart into = omega (arith, into 0 (omega arith))
crowded (suc m) f apart into =
    crowded m (turn f m (f (suc m)))
    (turn_apart (suc m) m (f (suc m)) f apart_below into_below (into (suc m) (omega arith)) fresh)
    (turn_into (suc m) m (f (suc m)) f apart_below into_below (into (suc m) (omega arith)) fresh)
  where
    apart_below : Apart (suc m) f
    apart_below i k hi hk = apart i k (omega arith) (omega arith)

    into_below : Into (suc m) (suc m) f
    into_below i h = into i (omega arith)

    fresh : (i : ℕ) → i < suc m → f i ≢ f (suc m)
    fresh i h e = omega (arith, apart i (suc m) (omega arith) (omega arith) e)

-- a map of the numbers below n into themselves that takes no value twice takes every value
pub onto : (n : ℕ) (f : ℕ → ℕ) → Apart n f → Into n n f → (j : ℕ) → j < n → (i : ℕ) × (i < n) × (f i ≡ j)
onto zero f apart into j h = absurd (omega arith)
onto (suc m) f apart into j h = go (exists (λ i. f i ≡ j) (λ i. ℕ_discrete (f i) j) (suc m))
  where
    go : ((i : ℕ) × (i < suc m) × (f i ≡ j)) ⊎ ((i : ℕ) → i < suc m → f i ≡ j → ⊥) → (i : ℕ) × (i < suc m) × (f i ≡ j)
    go (inl r) = r
    go (inr none) = absurd (crowded m (turn f m j) (turn_apart (suc m) m j f apart into h none) (turn_into (suc m) m j f apart into h none))

-- P1, closed-onto: f is patched to the identity outside X, so that it is a map of all numbers below n, and `onto` holds of that
module _ (n : ℕ) (X : ℕ → Type 0) (dec : (i : ℕ) → Dec (X i)) (f : ℕ → ℕ) (below : (i : ℕ) → X i → i < n)
    (closed : (i : ℕ) → X i → X (f i)) (apart : (i k : ℕ) → X i → X k → f i ≡ f k → i ≡ k) where
  abbrev patch : ℕ → ℕ
  patch i = choose (dec i) (f i) i

  patch_into : Into n n patch
  patch_into i h = go (dec i)
    where
      go : (d : Dec (X i)) → choose d (f i) i < n
      go (yes x) = below (f i) (closed i x)
      go (no x) = h

  patch_apart : Apart n patch
  patch_apart i k hi hk = go (dec i) (dec k)
    where
      go : (d : Dec (X i)) (e : Dec (X k)) → choose d (f i) i ≡ choose e (f k) k → i ≡ k
      go (yes p) (yes q) e = apart i k p q e
      go (yes p) (no q) e = absurd (q (rw (← e) (closed i p)))
      go (no p) (yes q) e = absurd (p (rw e (closed k q)))
      go (no p) (no q) e = e

  pub closed_onto : (x : ℕ) → X x → (y : ℕ) × X y × (f y ≡ x)
  closed_onto x hx = from (onto n patch patch_apart patch_into x (below x hx))
    where
      from : (y : ℕ) × (y < n) × (patch y ≡ x) → (y : ℕ) × X y × (f y ≡ x)
      from r = go (dec r.0) r.2
        where
          go : (d : Dec (X r.0)) → choose d (f r.0) r.0 ≡ x → (y : ℕ) × X y × (f y ≡ x)
          go (yes p) e = (r.0, p, e)
          go (no p) e = absurd (p (rw e hx))

-- ---- the inverse of such a map
abbrev found : (P : ℕ → Type 0) (n : ℕ) → ((i : ℕ) × (i < n) × P i) ⊎ ((i : ℕ) → i < n → P i → ⊥) → ℕ
found P n (inl w) = w.0
found P n (inr none) = 0

-- the number below n that f takes to j
pub inverse : ℕ → (ℕ → ℕ) → ℕ → ℕ
inverse n f j = found (λ i. f i ≡ j) n (exists (λ i. f i ≡ j) (λ i. ℕ_discrete (f i) j) n)

pub inverse_right : (n : ℕ) (f : ℕ → ℕ) → Apart n f → Into n n f → (j : ℕ) → j < n → (inverse n f j < n) × (f (inverse n f j) ≡ j)
unfolding inverse
inverse_right n f apart into j h = go (exists (λ i. f i ≡ j) (λ i. ℕ_discrete (f i) j) n)
  where
    go : (r : ((i : ℕ) × (i < n) × (f i ≡ j)) ⊎ ((i : ℕ) → i < n → f i ≡ j → ⊥))
        → (found (λ i. f i ≡ j) n r < n) × (f (found (λ i. f i ≡ j) n r) ≡ j)
    go (inl w) = (w.1, w.2)
    go (inr none) = let w = onto n f apart into j h in absurd (none w.0 w.1 w.2)
