-- The decimal text of a number: it has no second reading. Assumes nothing.
use mathlib.Core.Path.{◌≡◌, refl, sym, ap, subst⁻¹, ◌∙◌}
use mathlib.Core.Bool.{Bool, true, false}
use mathlib.Core.List.{List, [], ◌∷◌, ◌++◌}
use Prim.Native.Nat.{ℕ, zero, suc, ◌+◌, ◌-◌, ◌*◌, ◌/◌, ◌%◌, ◌<◌, ◌≤◌}
use native.Mathlib.Omega.{arith}
use native.Mathlib.Decide.{dec_lt}
use borrow.Author.Tests.{ltb-false, lt-ltb, le-ltb}
use lib.Dec.{ltb}
use lib.ListN.{length, get_or, length-append, get_or-append}
use Rattle.sheet.specs.Text.{Each, digits, text}
use Rattle.sheet.specs.Text.{Digit, NoDigit}
use Rattle.sheet.proofs.Bytes.{cond_by, each_append, each_one, front_once}

-- more fuel than the number changes nothing
digits_fuel : (f g n : ℕ) → n < f → n < g → digits f n ≡ digits g n
unfolding digits
digits_fuel zero g n h k = absurd (omega arith)
digits_fuel (suc f) zero n h k = absurd (omega arith)
digits_fuel (suc f) (suc g) n h k =
    cond_by (ltb n 10) (λ e. refl)
    (λ e. ap (λ l. l ++ ((48 + n % 10) ∷ [])) (digits_fuel f g (n / 10) (omega (arith, ltb-false n 10 e)) (omega (arith, ltb-false n 10 e))))

-- a number below ten is one digit; any other is the text of its tens and one digit more
pub text_small : (n : ℕ) → n < 10 → text n ≡ (48 + n) ∷ []
unfolding text digits
text_small n h = rw (lt-ltb n 10 h)

pub text_large : (n : ℕ) → 10 ≤ n → text n ≡ text (n / 10) ++ ((48 + n % 10) ∷ [])
unfolding text digits
text_large n h =
    rw (le-ltb n 10 h) (ap (λ l. l ++ ((48 + n % 10) ∷ [])) (digits_fuel n (suc (n / 10)) (n / 10) (omega arith) (omega arith)))

pub text_next : (v d : ℕ) → 1 ≤ v → d < 10 → text (v * 10 + d) ≡ text v ++ ((48 + d) ∷ [])
text_next v d h k =
    let q : (v * 10 + d) / 10 ≡ v = omega arith in
    let r : (v * 10 + d) % 10 ≡ d = omega arith in
    text_large (v * 10 + d) (omega arith) ∙ ap (λ i. text i ++ ((48 + (v * 10 + d) % 10) ∷ [])) q ∙ ap (λ i. text v ++ ((48 + i) ∷ [])) r

-- what holds below ten, and of a number if it holds of its tens, holds of every number
tens_by : (P : ℕ → Type 0) → ((n : ℕ) → n < 10 → P n) → ((n : ℕ) → 10 ≤ n → P (n / 10) → P n) → (f n : ℕ) → n < f → P n
tens_by P a b zero n h = absurd (omega arith)
tens_by P a b (suc f) n h = go (ltb n 10) refl (λ k. tens_by P a b f (n / 10) (omega arith))
  where
    go : (t : Bool) → ltb n 10 ≡ t → (10 ≤ n → P (n / 10)) → P n
    go true e r = a n (omega (arith, borrow.Author.Tests.ltb-true n 10 e))
    go false e r = b n (ltb-false n 10 e) (r (ltb-false n 10 e))

pub by_tens : (P : ℕ → Type 0) → ((n : ℕ) → n < 10 → P n) → ((n : ℕ) → 10 ≤ n → P (n / 10) → P n) → (n : ℕ) → P n
by_tens P a b n = tens_by P a b (suc n) n (omega arith)

pub text_digits : (n : ℕ) → Each Digit (text n)
text_digits =
    by_tens (λ n. Each Digit (text n)) (λ n h. subst⁻¹ (λ l. Each Digit l) (text_small n h) (each_one Digit (48 + n) (omega arith)))
    (λ n h ih.
    subst⁻¹ (λ l. Each Digit l) (text_large n h) (each_append Digit (text (n / 10)) ((48 + n % 10) ∷ []) ih (each_one Digit (48 + n % 10) (omega arith))))

pub text_some : (n : ℕ) → 1 ≤ length (text n)
text_some =
    by_tens (λ n. 1 ≤ length (text n)) (λ n h. subst⁻¹ (λ l. 1 ≤ length l) (text_small n h) (omega arith))
    (λ n h ih.
    subst⁻¹ (λ l. 1 ≤ length l) (text_large n h) (omega (arith, length-append (text (n / 10)) ((48 + n % 10) ∷ []))))

-- a number below ten times b has at most one digit more than the numbers below b
text_step : (b k : ℕ) → 1 ≤ k → ((m : ℕ) → m < b → length (text m) ≤ k) → (n : ℕ) → n < b * 10 → length (text n) ≤ k + 1
text_step b k one f n h = go (dec_lt n 10)
  where
    go : Dec (n < 10) → length (text n) ≤ k + 1
    go (yes g) = rw (text_small n g) (omega arith)
    go (no g) =
        rw (text_large n (omega arith)) (omega (arith, length-append (text (n / 10)) ((48 + n % 10) ∷ []), f (n / 10) (omega arith)))

-- a number below a power of ten has no more digits than the power
abbrev pub tens : ℕ → ℕ
tens zero = 1
tens (suc k) = tens k * 10

pub text_within : (k n : ℕ) → n < tens (suc k) → length (text n) ≤ suc k
text_within zero n h = rw (text_small n h) (omega arith)
text_within (suc k) n h = omega (arith, text_step (tens (suc k)) (suc k) (omega arith) (text_within k) n h)

-- a number has no more digits than a greater one
pub text_mono : (m n : ℕ) → n ≤ m → length (text n) ≤ length (text m)
text_mono =
    by_tens (λ m. (n : ℕ) → n ≤ m → length (text n) ≤ length (text m))
    (λ m h n g. omega (arith, ap length (text_small m h), ap length (text_small n (omega arith)))) large
  where
    large : (m : ℕ) → 10 ≤ m → ((n : ℕ) → n ≤ m / 10 → length (text n) ≤ length (text (m / 10))) → (n : ℕ) → n ≤ m → length (text n) ≤ length (text m)
    large m h rec n g =
        elim (dec_lt n 10) [
          | yes k ↦ omega (arith, ap length (text_small n k), text_some m)
          | no k ↦
              omega (
                arith,
                ap length (text_large m h),
                ap length (text_large n (omega arith)),
                length-append (text (m / 10)) ((48 + m % 10) ∷ []),
                length-append (text (n / 10)) ((48 + n % 10) ∷ []),
                rec (n / 10) (omega arith),
              )
        ]

-- "no leading zero"
pub text_first : (n : ℕ) → 1 ≤ n → 49 ≤ get_or (text n) 0 0
text_first =
    by_tens (λ n. 1 ≤ n → 49 ≤ get_or (text n) 0 0) (λ n h k. subst⁻¹ (λ l. 49 ≤ get_or l 0 0) (text_small n h) (omega arith))
    (λ n h ih k.
    subst⁻¹ (λ l. 49 ≤ get_or l 0 0) (text_large n h)
    (rw (get_or-append (text (n / 10)) ((48 + n % 10) ∷ []) 0 0 (text_some (n / 10))) (ih (omega arith))))

-- the value of digits
unfoldable pub value_from : ℕ → List ℕ → ℕ
value_from v [] = v
value_from v (b ∷ s) = value_from (v * 10 + (b - 48)) s

pub value_append : (v : ℕ) (a b : List ℕ) → value_from v (a ++ b) ≡ value_from (value_from v a) b
unfolding value_from
value_append v [] b = refl
value_append v (x ∷ a) b = value_append (v * 10 + (x - 48)) a b

pub value_grows : (v : ℕ) (s : List ℕ) → v ≤ value_from v s
unfolding value_from
value_grows v [] = omega arith
value_grows v (b ∷ s) = omega (arith, value_grows (v * 10 + (b - 48)) s)

pub value_text : (n : ℕ) → value_from 0 (text n) ≡ n
unfolding value_from
value_text =
    by_tens (λ n. value_from 0 (text n) ≡ n) (λ n h. rw (text_small n h) (omega arith))
    (λ n h ih.
    rw (text_large n h, value_append 0 (text (n / 10)) ((48 + n % 10) ∷ []), ih) (omega arith))

pub text_once : (v w : ℕ) → text v ≡ text w → v ≡ w
text_once v w e = sym (value_text v) ∙ ap (λ l. value_from 0 l) e ∙ value_text w

-- a number, and what stands after it, is read in one way only
pub number_once : (v w : ℕ) (x y : List ℕ) → NoDigit x → NoDigit y → text v ++ x ≡ text w ++ y → (v ≡ w) × (x ≡ y)
number_once v w x y p q e =
    let r : (text v ≡ text w) × (x ≡ y) = front_once Digit (text v) x (text w) y (text_digits v) (text_digits w) p q e in
    (text_once v w r.0, r.1)
