-- Lines put one after the other, each in the room that those before it left. Assumes nothing.
use mathlib.Core.Path.{◌≡◌, sym, ap, ◌∙◌}
use mathlib.Core.List.{List, [], ◌∷◌, ◌++◌, append_assoc, append-nil}
use Prim.Native.Nat.{ℕ, zero, suc, ◌+◌, ◌<◌, ◌≤◌}
use native.Mathlib.Omega.{arith}
use native.Mathlib.Numerals.{add-one}
use lib.ListN.{length, get_or, take, length-append}
use Rattle.sheet.specs.Text.{ended}
use Rattle.sheet.specs.Sheet.{ended_lines}
use Rattle.page.specs.Parts.{lines}

module _ {A : Type 0} (shown : A → List ℕ) where
  line_suc : (l : List A) (k : ℕ) (v : A) → k < length l → lines shown (take (suc k) l) ≡ lines shown (take k l) ++ ended (shown (get_or l k v))
  unfolding ended_lines
  line_suc [] k v h = absurd (omega arith)
  line_suc (x ∷ l) zero v h = append-nil (ended (shown x))
  line_suc (x ∷ l) (suc k) v h =
      ap (λ y. ended (shown x) ++ y) (line_suc l k v (omega arith)) ∙ sym (append_assoc (ended (shown x)) (lines shown (take k l)) (ended (shown (get_or l k v))))

  lines_short : (l : List A) (k : ℕ) → length (lines shown (take k l)) ≤ length (lines shown l)
  unfolding ended_lines
  lines_short l zero = omega arith
  lines_short [] (suc k) = omega arith
  lines_short (x ∷ l) (suc k) =
      omega (arith, length-append (ended (shown x)) (lines shown (take k l)), length-append (ended (shown x)) (lines shown l), lines_short l k)

  -- the line of one value more
  pub line_next : (l : List A) (k : ℕ) (v : A) → k < length l → v ≡ get_or l k v
      → lines shown (take (k + 1) l) ≡ lines shown (take k l) ++ ended (shown v)
  line_next l k v h e =
      ap (λ i. lines shown (take i l)) (add-one k) ∙ line_suc l k v h ∙ ap (λ x. lines shown (take k l) ++ ended (shown x)) (sym e)

  -- and it has room where all lines do
  pub line_room : (l : List A) (k : ℕ) (v : A) → k < length l → v ≡ get_or l k v
      → length (lines shown (take k l)) + length (ended (shown v)) ≤ length (lines shown l)
  line_room l k v h e =
      omega (
        arith,
        ap length (line_next l k v h e),
        length-append (lines shown (take k l)) (ended (shown v)),
        lines_short l (k + 1),
      )
