-- Orders: the length of their lines, and one order more. Assumes nothing.
use mathlib.Core.Path.{◌≡◌, refl, sym, ap, ◌∙◌}
use mathlib.Core.Bool.{Bool, true, false, cond}
use mathlib.Core.List.{List, [], ◌∷◌, ◌++◌, append_assoc, append-nil}
use Prim.Native.Nat.{ℕ, suc, ◌+◌, ◌*◌, ◌/◌, ◌%◌, ◌<◌, ◌≤◌}
use native.Mathlib.Omega.{arith}
use native.Mathlib.Numerals.{add-one}
use lib.IntN.{ℤ, pos, negsuc, nat_abs}
use lib.ListN.{length, get_or, take, drop, length-append, take-append-drop}
use lib.Seq.{take-suc, length-take-le}
use mir.Syntax.{w16, w64}
use mir.Val.{SFits, Fits, bool_byte}
use lib.Signed.{lt_z}
use Rattle.lettering.proofs.TextLaws.{signed_minus, signed_plus}
use Rattle.orders.proofs.Places.{row_inside, col_inside}
use Rattle.sheet.specs.Text.{feed, blank, text, signed, ended}
use Rattle.sheet.specs.Sheet.{is_absent, present_count, order_text, ended_lines, order_lines}
use Rattle.sheet.proofs.Numbers.{text_within}
use Rattle.sheet.proofs.Orders.{ended_append, lines_append, count_append}
use Rattle.order_lines.specs.Parts.{order_bytes, entry_bytes, order_end, value_most}

-- the length of a number with its sign, and that of one of 16 bits
pub signed_length : (v : ℤ) → bool_byte (lt_z v (pos 0)) + length (text (nat_abs v)) ≡ length (signed v)
signed_length v = go (lt_z v (pos 0)) refl
  where
    go : (b : Bool) → lt_z v (pos 0) ≡ b → bool_byte b + length (text (nat_abs v)) ≡ length (signed v)
    go true e = omega (arith, ap length (signed_minus v e))
    go false e = omega (arith, ap length (signed_plus v e))

pub value_short : (v : ℤ) → SFits w16 v → length (signed v) ≤ value_most
value_short (pos n) f = omega (arith, text_within 4 n (omega (arith, f.sfits)))
value_short (negsuc n) f = omega (arith, text_within 4 (suc n) (omega (arith, f.sfits)))

-- the row and the column of a place, counted from 1, fit where the number of rows does
module _ (n p : ℕ) (inside : p < n * n) (fits : Fits w64 n) where
  pub row_fits : Fits w64 (p / n + 1)
  row_fits = omega (arith, row_inside n p inside)

  pub col_fits : Fits w64 (p % n + 1)
  col_fits = omega (arith, col_inside n p inside)

-- the length of an order's line
pub order_text_length : (i j : ℕ) (v : ℤ) → length (ended (order_text i j v)) ≡ length (text (i + 1)) + length (text (j + 1)) + length (signed v) + 3
order_text_length i j v =
    length-append (order_text i j v) (feed ∷ [])
    ∙ omega (
      arith,
      length-append (text (i + 1)) (blank ∷ (text (j + 1) ++ blank ∷ signed v)),
      length-append (text (j + 1)) (blank ∷ signed v),
    )

pub line_absent : (n p : ℕ) (v : ℤ) → is_absent v ≡ true → entry_bytes n p v ≡ []
line_absent n p v e = rw e

pub line_present : (n p : ℕ) (v : ℤ) → is_absent v ≡ false → entry_bytes n p v ≡ ended (order_text (p / n) (p % n) v)
line_present n p v e = rw e

-- the bytes of entries in two parts, and of one entry and others
pub bytes_append : (n p : ℕ) (a b : List ℤ) → order_bytes n p (a ++ b) ≡ order_bytes n p a ++ order_bytes n (p + length a) b
bytes_append n p a b = ap ended_lines (lines_append n p a b) ∙ ended_append (order_lines n p a) (order_lines n (p + length a) b)

bytes_by : (t : Bool) (l : List ℕ) (ls : List (List ℕ)) → ended_lines (cond t ls (l ∷ ls)) ≡ cond t [] (ended l) ++ ended_lines ls
unfolding ended_lines
bytes_by true l ls = refl
bytes_by false l ls = refl

pub bytes_cons : (n p : ℕ) (v : ℤ) (e : List ℤ) → order_bytes n p (v ∷ e) ≡ entry_bytes n p v ++ order_bytes n (suc p) e
unfolding order_lines
bytes_cons n p v e = bytes_by (is_absent v) (order_text (p / n) (p % n) v) (order_lines n (suc p) e)

pub bytes_one : (n p : ℕ) (v : ℤ) → order_bytes n p (v ∷ []) ≡ entry_bytes n p v
unfolding ended_lines order_lines
bytes_one n p v = bytes_by (is_absent v) (order_text (p / n) (p % n) v) [] ∙ append-nil (entry_bytes n p v)

-- one entry more
module _ (t : List ℤ) (p : ℕ) (h : p < length t) where
  pub order_lines_next : (n : ℕ) → order_bytes n 0 (take (p + 1) t) ≡ order_bytes n 0 (take p t) ++ entry_bytes n p (get_or t p (pos 0))
  order_lines_next n =
      let q : 0 + length (take p t) ≡ p = omega (arith, length-take-le p t (omega arith)) in
      ap (λ i. order_bytes n 0 (take i t)) (add-one p)
      ∙ ap (λ x. order_bytes n 0 x) (take-suc t p (pos 0) h)
      ∙ bytes_append n 0 (take p t) (get_or t p (pos 0) ∷ [])
      ∙ ap (λ i. order_bytes n 0 (take p t) ++ order_bytes n i (get_or t p (pos 0) ∷ [])) q
      ∙ ap (λ x. order_bytes n 0 (take p t) ++ x) (bytes_one n p (get_or t p (pos 0)))

-- the lines of a front are no longer than those of the whole
pub front_lines : (n k : ℕ) (t : List ℤ) → length (order_bytes n 0 (take k t)) ≤ length (order_bytes n 0 t)
front_lines n k t =
    let e : order_bytes n 0 t ≡ order_bytes n 0 (take k t) ++ order_bytes n (0 + length (take k t)) (drop k t) =
    ap (λ x. order_bytes n 0 x) (sym (take-append-drop k t)) ∙ bytes_append n 0 (take k t) (drop k t) in
    omega (arith, ap length e, length-append (order_bytes n 0 (take k t)) (order_bytes n (0 + length (take k t)) (drop k t)))

-- the present places so far, with one place more
pub count_next : (t : List ℤ) (p : ℕ) → p < length t → present_count (take (p + 1) t) ≡ present_count (take p t) + cond (is_absent (get_or t p (pos 0))) 0 1
unfolding present_count
count_next t p h =
    ap (λ i. present_count (take i t)) (add-one p) ∙ ap present_count (take-suc t p (pos 0) h) ∙ count_append (take p t) (get_or t p (pos 0) ∷ [])

-- the line of a present entry in the parts in which it is written
pub line_parts : (n p : ℕ) (v : ℤ) → is_absent v ≡ false → (text (p / n + 1) ++ blank ∷ []) ++ order_end n p v ≡ entry_bytes n p v
line_parts n p v e =
    let i = text (p / n + 1) in
    let j = text (p % n + 1) in
    append_assoc i (blank ∷ []) (order_end n p v)
    ∙ ap (λ x. i ++ blank ∷ x) (append_assoc j (blank ∷ []) (ended (signed v)))
    ∙ sym
    (line_present n p v e
    ∙ append_assoc i (blank ∷ (j ++ blank ∷ signed v)) (feed ∷ []) ∙ ap (λ x. i ++ blank ∷ x) (append_assoc j (blank ∷ signed v) (feed ∷ [])))

-- the length of the line of an entry that is present
pub present_length : (n p : ℕ) (v : ℤ) → is_absent v ≡ false
    → length (entry_bytes n p v) ≡ length (text (p / n + 1)) + length (text (p % n + 1)) + length (signed v) + 3
present_length n p v e = ap length (line_present n p v e) ∙ order_text_length (p / n) (p % n) v

-- the line of one entry more has room where all lines do
pub entry_room : (n : ℕ) (t : List ℤ) (p : ℕ) → p < length t
    → length (order_bytes n 0 (take p t)) + length (entry_bytes n p (get_or t p (pos 0))) ≤ length (order_bytes n 0 t)
entry_room n t p h =
    omega (
      arith,
      front_lines n (p + 1) t,
      ap length (order_lines_next t p h n),
      length-append (order_bytes n 0 (take p t)) (entry_bytes n p (get_or t p (pos 0))),
    )
