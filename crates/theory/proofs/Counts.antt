-- Counts of the numbers below n that have a property. Assumes nothing.
use mathlib.Core.Path.{◌≡◌, refl, ap}
use Prim.Native.Nat.{ℕ, zero, suc, ◌≤◌, ◌<◌}
use native.Mathlib.Decide.{ℕ_discrete}
use native.Mathlib.Omega.{arith}
use Rattle.theory.specs.Totals.{Count, none, one_more, passed_over}

-- a count is one number
pub count_once : {P : ℕ → Type 0} {n c d : ℕ} → Count P n c → Count P n d → c ≡ d
count_once none none = refl
count_once (one_more p x) (one_more q y) = ap suc (count_once p q)
count_once (one_more p x) (passed_over q y) = absurd (y x)
count_once (passed_over p x) (one_more q y) = absurd (x y)
count_once (passed_over p x) (passed_over q y) = count_once p q

-- what has another property exactly when it has this one is counted alike
pub count_same : {P Q : ℕ → Type 0} (n : ℕ) {c : ℕ} → ((i : ℕ) → i < n → P i → Q i) → ((i : ℕ) → i < n → Q i → P i) → Count P n c → Count Q n c
count_same n to back none = none
count_same (suc n) to back (one_more p x) =
    one_more (count_same n (λ i hi. to i (omega arith)) (λ i hi. back i (omega arith)) p) (to n (omega arith) x)
count_same (suc n) to back (passed_over p x) =
    passed_over (count_same n (λ i hi. to i (omega arith)) (λ i hi. back i (omega arith)) p) (λ q. x (back n (omega arith) q))

-- where nothing has the property, nothing is counted
pub count_none : {P : ℕ → Type 0} (n : ℕ) → ((i : ℕ) → i < n → P i → ⊥) → Count P n 0
count_none zero f = none
count_none (suc n) f = passed_over (count_none n (λ i hi. f i (omega arith))) (f n (omega arith))

-- where something has it, something is counted
pub count_some : {P : ℕ → Type 0} (n : ℕ) {c : ℕ} → Count P n c → (i : ℕ) → i < n → P i → 1 ≤ c
count_some {P = P} zero {c = c} _ i hi y = elim hi [ ]
count_some (suc n) (one_more p x) i hi y = omega arith
count_some {P} (suc n) (passed_over p x) i hi y =
    elim (ℕ_discrete i n) [ yes e ↦ absurd (x (rw e at y)) | no ne ↦ count_some n p i (omega arith) y ]

-- no more is counted than there is
pub count_most : {P : ℕ → Type 0} (n : ℕ) {c : ℕ} → Count P n c → c ≤ n
count_most zero none = omega arith
count_most (suc n) (one_more p x) = omega (arith, count_most n p)
count_most (suc n) (passed_over p x) = omega (arith, count_most n p)
