-- A number with a minus before it or without one, and the machine's sixteen bits for it. Assumes nothing.
use mathlib.Core.Path.{◌≡◌, sym, ap, ◌∙◌}
use mathlib.Core.List.{List, ◌∷◌}
use Prim.Native.Nat.{ℕ, suc, ◌^◌, ◌<◌, ◌≤◌}
use native.Mathlib.Omega.{arith}
use lib.IntN.{ℤ, pos, negsuc}
use lib.ListN.{get_or, drop}
use mir.Syntax.{w16}
use mir.Val.{of_z, to_z}
use mir.Facts.{to_z-of_z}
use Rattle.theory.specs.Table.{Order}
use Rattle.theory.proofs.Signed.{signed as signs}
use Rattle.sheet.specs.Text.{minus, text}
use Rattle.sheet.proofs.Numbers.{text_digits, text_some, text_once}
use Rattle.fields.specs.Fields.{NumberIs, SignedIs}

first_byte : (n : ℕ) → 48 ≤ get_or (text n) 0 0
first_byte n = (text_digits n 0 (text_some n)).0

module _ (s : List ℕ) (limit : ℕ) where
  -- behind a minus: no number, or 0
  module _ {x : List ℕ} (b : s ≡ minus ∷ x) where
    pub minus_nothing : ((n : ℕ) → NumberIs x limit n → ⊥) → (v : ℤ) → SignedIs s limit v → ⊥
    minus_nothing none (pos n) f = omega (arith, first_byte n, ap (λ y. get_or y 0 0) (sym b ∙ f.is))
    minus_nothing none (negsuc n) f =
        none (suc n) (record { small = omega (arith, signs, f.small.low); is = ap (λ y. drop 1 y) (sym b ∙ f.is) })

    pub minus_zero : NumberIs x limit 0 → (v : ℤ) → SignedIs s limit v → ⊥
    minus_zero z (pos n) f = omega (arith, first_byte n, ap (λ y. get_or y 0 0) (sym b ∙ f.is))
    minus_zero z (negsuc n) f = omega (arith, text_once (suc n) 0 (sym (ap (λ y. drop 1 y) (sym b ∙ f.is)) ∙ z.is))

-- an order below 2 ^ 15 reads back from its bits
pub order_bits : {limit : ℕ} → limit < 2 ^ 15 → (v : ℤ) → Order limit v → to_z w16 (of_z w16 v) ≡ v
order_bits fits (pos n) o = to_z-of_z {w = w16} (record { sfits = omega (arith, signs, o.high) })
order_bits fits (negsuc n) o = to_z-of_z {w = w16} (record { sfits = omega (arith, signs, o.low) })
