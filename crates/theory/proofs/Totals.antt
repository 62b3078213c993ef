-- P2: totals over the numbers below n, by parts, by comparison, and in another order. Assumes nothing.
use mathlib.Core.Path.{◌≡◌, refl, sym, ◌∙◌, ap, ap₂}
use mathlib.Core.Logic.{◌≢◌}
use Prim.Native.Nat.{ℕ, zero, suc, ◌+◌, ◌*◌, ◌≤◌, ◌<◌}
use native.Mathlib.Decide.{ℕ_discrete}
use native.Mathlib.Omega.{arith}
use lib.IntN.{ℤ, ◌+ℤ◌}
use Rattle.theory.specs.Totals.{total, totalℕ}
use Rattle.theory.proofs.Pigeonhole.{Into, Apart, choose, choose_yes, choose_no, onto}

pub total_same : (n : ℕ) (f g : ℕ → ℕ) → ((i : ℕ) → i < n → f i ≡ g i) → totalℕ n f ≡ totalℕ n g
unfolding totalℕ
total_same zero f g e = refl
total_same (suc n) f g e = ap₂ ◌+◌ (total_same n f g (λ i h. e i (omega arith))) (e n (omega arith))

pub total_sameℤ : (n : ℕ) (f g : ℕ → ℤ) → ((i : ℕ) → i < n → f i ≡ g i) → total n f ≡ total n g
unfolding total
total_sameℤ zero f g e = refl
total_sameℤ (suc n) f g e = ap₂ ◌+ℤ◌ (total_sameℤ n f g (λ i h. e i (omega arith))) (e n (omega arith))

pub total_le : (n : ℕ) (f g : ℕ → ℕ) → ((i : ℕ) → i < n → f i ≤ g i) → totalℕ n f ≤ totalℕ n g
unfolding totalℕ
total_le zero f g e = omega arith
total_le (suc n) f g e = omega (arith, total_le n f g (λ i h. e i (omega arith)), e n (omega arith))

pub total_plus : (n : ℕ) (f g : ℕ → ℕ) → totalℕ n (λ i. f i + g i) ≡ totalℕ n f + totalℕ n g
unfolding totalℕ
total_plus zero f g = refl
total_plus (suc n) f g = omega (arith, total_plus n f g)

pub total_zero : (n : ℕ) (f : ℕ → ℕ) → ((i : ℕ) → i < n → f i ≡ 0) → totalℕ n f ≡ 0
unfolding totalℕ
total_zero zero f e = refl
total_zero (suc n) f e = omega (arith, total_zero n f (λ i h. e i (omega arith)), e n (omega arith))

-- a total of n numbers that are at most b each
pub total_bound : (n b : ℕ) (f : ℕ → ℕ) → ((i : ℕ) → i < n → f i ≤ b) → totalℕ n f ≤ n * b
unfolding totalℕ
total_bound zero b f e = omega arith
total_bound (suc n) b f e = omega (arith, total_bound n b f (λ i h. e i (omega arith)), e n (omega arith))

-- a place is at most the total
pub total_ge : (n : ℕ) (f : ℕ → ℕ) (k : ℕ) → k < n → f k ≤ totalℕ n f
unfolding totalℕ
total_ge zero f k h = absurd (omega arith)
total_ge (suc n) f k h = elim (ℕ_discrete k n) [ yes e ↦ rw e (omega arith) | no ne ↦ omega (arith, total_ge n f k (omega arith)) ]

-- where f is at most g at each place and less at one, its total is less
pub total_lt : (n : ℕ) (f g : ℕ → ℕ) (k : ℕ) → ((i : ℕ) → i < n → f i ≤ g i) → k < n → f k < g k → totalℕ n f < totalℕ n g
unfolding totalℕ
total_lt zero f g k le h lt = absurd (omega arith)
total_lt (suc n) f g k le h lt =
    let below : (i : ℕ) → i < n → f i ≤ g i = λ i hi. le i (omega arith) in
    elim (ℕ_discrete k n) [
      | yes e ↦ let last : f n < g n = rw e at lt in omega (arith, total_le n f g below)
      | no ne ↦ omega (arith, total_lt n f g k below (omega arith) lt, le n (omega arith))
    ]

-- P2, second half: where f is at most g at each place and the totals are equal, f is g at each place
pub total_tight : (n : ℕ) (f g : ℕ → ℕ) → ((i : ℕ) → i < n → f i ≤ g i) → totalℕ n g ≤ totalℕ n f → (i : ℕ) → i < n → f i ≡ g i
unfolding totalℕ
total_tight zero f g le s i h = absurd (omega arith)
total_tight (suc n) f g le s i h =
    let below : (k : ℕ) → k < n → f k ≤ g k = λ k hk. le k (omega arith) in
    elim (ℕ_discrete i n) [
      | yes e ↦ rw e (omega (arith, le n (omega arith), total_le n f g below))
      | no ne ↦ total_tight n f g below (omega (arith, le n (omega arith))) i (omega arith)
    ]

-- the order of two totals
pub total_swap : (n m : ℕ) (f : ℕ → ℕ → ℕ) → totalℕ n (λ i. totalℕ m (λ j. f i j)) ≡ totalℕ m (λ j. totalℕ n (λ i. f i j))
unfolding totalℕ
total_swap zero m f = sym (total_zero m (λ j. 0) (λ j h. refl))
total_swap (suc n) m f = ap (λ (x : ℕ). x + totalℕ m (λ j. f n j)) (total_swap n m f) ∙ sym (total_plus m (λ j. totalℕ n (λ i. f i j)) (λ j. f n j))

-- a total of which one place alone counts
pub total_one : (n : ℕ) (f : ℕ → ℕ) (k : ℕ) → k < n → ((i : ℕ) → i < n → i ≢ k → f i ≡ 0) → totalℕ n f ≡ f k
unfolding totalℕ
total_one zero f k h e = absurd (omega arith)
total_one (suc n) f k h e =
    elim (ℕ_discrete k n) [
      | yes p ↦ rw p (omega (arith, total_zero n f (λ i hi. e i (omega arith) (omega arith))))
      | no p ↦ omega (arith, total_one n f k (omega arith) (λ i hi. e i (omega arith)), e n (omega arith) (omega arith))
    ]

-- a total after a change at one place
pub total_change : (n : ℕ) (f g : ℕ → ℕ) (k : ℕ) → k < n → ((x : ℕ) → x < n → x ≢ k → g x ≡ f x) → totalℕ n g + f k ≡ totalℕ n f + g k
unfolding totalℕ
total_change zero f g k h e = absurd (omega arith)
total_change (suc n) f g k h e =
    elim (ℕ_discrete k n) [
      | yes p ↦ rw p (omega (arith, total_same n g f (λ x hx. e x (omega arith) (omega arith))))
      | no p ↦ omega (arith, total_change n f g k (omega arith) (λ x hx. e x (omega arith)), e n (omega arith) (omega arith))
    ]

-- v where i is j, and 0 elsewhere
abbrev spot : ℕ → ℕ → ℕ → ℕ
spot i j v = choose (ℕ_discrete i j) v 0

-- P2, reindexing: Σ f(σ i) = Σ f(j) for a σ that takes each number below n once. Both are the total of the square table that has
-- f j where σ i is j and 0 elsewhere: by rows it is the one, by columns the other.
pub reindexing : (n : ℕ) (σ f : ℕ → ℕ) → Apart n σ → Into n n σ → totalℕ n (λ i. f (σ i)) ≡ totalℕ n f
reindexing n σ f apart into =
    total_same n (λ i. f (σ i)) (λ i. totalℕ n (λ j. spot (σ i) j (f j))) row
    ∙ total_swap n n (λ i j. spot (σ i) j (f j))
    ∙ total_same n (λ j. totalℕ n (λ i. spot (σ i) j (f j))) f column
  where
    off : (x j : ℕ) → x ≢ j → spot x j (f j) ≡ 0
    off x j ne = choose_no (ℕ_discrete x j) (f j) 0 ne

    row : (i : ℕ) → i < n → f (σ i) ≡ totalℕ n (λ j. spot (σ i) j (f j))
    row i h = sym (total_one n (λ j. spot (σ i) j (f j)) (σ i) (into i h) (λ j hj ne. off (σ i) j (λ e. ne (sym e)))
        ∙ choose_yes (ℕ_discrete (σ i) (σ i)) (f (σ i)) 0 refl)

    column : (j : ℕ) → j < n → totalℕ n (λ i. spot (σ i) j (f j)) ≡ f j
    column j h = go (onto n σ apart into j h)
      where
        go : (i : ℕ) × (i < n) × (σ i ≡ j) → totalℕ n (λ i. spot (σ i) j (f j)) ≡ f j
        go (k, hk, e) = total_one n (λ i. spot (σ i) j (f j)) k hk (λ i hi ne. off (σ i) j (λ p. ne (apart i k hi hk (p ∙ sym e))))
            ∙ choose_yes (ℕ_discrete (σ k) j) (f j) 0 e
