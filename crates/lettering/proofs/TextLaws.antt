-- The length of a number's text, and a signed number with and without its sign. Assumes nothing.
use mathlib.Core.Path.{◌≡◌, refl, sym, ap, ◌∙◌}
use mathlib.Core.Bool.{true, false}
use mathlib.Core.List.{[], ◌∷◌}
use Prim.Native.Nat.{ℕ, zero, suc, ◌+◌, ◌*◌, ◌^◌, ◌/◌, ◌%◌, ◌<◌, ◌≤◌}
use native.Mathlib.Omega.{arith}
use lib.IntN.{ℤ, pos, negsuc, nat_abs}
use lib.ListN.{length, length-append}
use lib.Signed.{lt_z}
use mir.Syntax.{w64}
use mir.Val.{Fits}
use Rattle.std.specs.Prelude.{Option, None, Some, IfNone, IfSome}
use Rattle.std.specs.Option.{unwrap_or}
use Rattle.theory.proofs.Signed.{signed as signs}
use Rattle.sheet.specs.Text.{text, signed, minus}
use Rattle.sheet.proofs.Numbers.{text_small, text_large}
use Rattle.sheet.proofs.Numbers.{text_within}

-- a number of 64 bits has at most 20 digits
pub number_short : (v : ℕ) → Fits w64 v → length (text v) ≤ 20
number_short v f = text_within 19 v (omega arith)

-- a number's two ways: ten and more, or one digit
pub digits_more : (v : ℕ) → 10 ≤ v → length (text v) ≡ length (text (v / 10)) + 1
digits_more v h = ap length (text_large v h) ∙ length-append (text (v / 10)) ((48 + v % 10) ∷ [])

-- a number of k + 1 digits is ten to the k or more, and below ten to the k + 1
power_digits : (v k : ℕ) → 10 ^ k ≤ v → v < 10 * 10 ^ k → length (text v) ≡ k + 1
power_digits v zero low high = ap length (text_small v (omega arith))
power_digits v (suc k) low high =
    omega (arith, digits_more v (omega arith), power_digits (v / 10) k (omega arith) (omega arith))

-- so the digits are one more than the logarithm, and 0, which has none, is one digit
pub logarithm_digits : (v : ℕ) (o : Option ℕ) → IfNone o (v ≡ 0) → IfSome o (λ k. 10 ^ k ≤ v) → IfSome o (λ k. v < 10 * 10 ^ k)
    → unwrap_or o 0 + 1 ≡ length (text v)
logarithm_digits v None none low high = sym (ap length (text_small v (omega arith)))
logarithm_digits v (Some k) none low high = sym (power_digits v k low high)

-- the text of an order with and without a minus
pub signed_minus : (v : ℤ) → lt_z v (pos 0) ≡ true → signed v ≡ minus ∷ text (nat_abs v)
signed_minus (pos n) t = absurd (omega (arith, signs, t))
signed_minus (negsuc n) t = refl

pub signed_plus : (v : ℤ) → lt_z v (pos 0) ≡ false → signed v ≡ text (nat_abs v)
signed_plus (pos n) t = refl
signed_plus (negsuc n) t = absurd (omega (arith, signs, t))
