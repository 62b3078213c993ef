-- The first line of a text, and what stands behind it. Assumes nothing.
use mathlib.Core.Path.{◌≡◌, refl, sym, ap, subst⁻¹, ◌∙◌}
use mathlib.Core.List.{List, ◌∷◌}
use Prim.Native.Nat.{ℕ, ◌+◌}
use native.Mathlib.Omega.{arith}
use lib.ListN.{length, take, drop, length-append}
use lib.Seq.{take_at, drop-append-add}
use Rattle.sheet.specs.Text.{feed}
use Rattle.sheet.specs.Reading.{Ended}
use Rattle.sheet.proofs.Lines.{ended_once, unbroken_unended}
use Rattle.fields.specs.Fields.{BeforeFeed, LineIs}

-- what stands behind the first line, and how many bytes that line takes
module _ {s l x : List ℕ} (e : Ended s l x) where
  pub behind_line : x ≡ drop (length l + 1) s
  behind_line = sym (ap (λ y. drop (length l + 1) y) e.parts ∙ drop-append-add l (feed ∷ x) 1)

  pub line_length : length l + 1 + length x ≡ length s
  line_length = omega (arith, ap length e.parts, length-append l (feed ∷ x))

  front_line : take (length l) s ≡ l
  front_line = ap (λ y. take (length l) y) e.parts ∙ take_at l (feed ∷ x) (length l) refl

  pub line_of : LineIs s (length l)
  line_of =
      record {
        ended = subst⁻¹ (λ y. Ended s y (drop (length l + 1) s)) front_line (rw behind_line at e);
        inside = omega (arith, line_length);
      }

-- the first line is found in one way only
pub line_only : {s : List ℕ} {e : ℕ} → LineIs s e → (l x : List ℕ) → Ended s l x → l ≡ take e s
line_only {s} {e} f l x g = (ended_once s l x (take e s) (drop (e + 1) s) g f.ended).0

-- a text of bytes that are no line feeds has no line
pub line_none : {s : List ℕ} {e : ℕ} → BeforeFeed s e → e ≡ length s → (i : ℕ) → LineIs s i → ⊥
line_none {s} b z i f = unbroken_unended s (take i s) (drop (i + 1) s) (λ k g. b.none k (omega arith)) f.ended
