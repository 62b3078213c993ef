-- Labels in their places of 8 bytes. Assumes nothing.
use mathlib.Core.Path.{◌≡◌, refl, sym, ap, subst, subst⁻¹, ◌∙◌}
use mathlib.Core.List.{List, [], ◌∷◌, ◌++◌, append_assoc, append-nil}
use Prim.Native.Nat.{ℕ, zero, suc, ◌+◌, ◌-◌, ◌*◌, ◌<◌, ◌≤◌}
use native.Mathlib.Omega.{arith}
use native.Mathlib.Decide.{ℕ_discrete}
use lib.ListN.{length, get_or, take, drop, replicate, length-append, length-replicate, get_or-append}
use lib.Seq.{take_at, drop-append-add, get_or-append_seam}
use Rattle.sheet.specs.Text.{Each}
use Rattle.sheet.specs.Labels.{LetterOrDigit, digit, capital, small, width, Form, New, Labels, filled, slots, slot}
use Rattle.sheet.proofs.Bytes.{Stops, front_once}

-- a letter or digit is no zero byte, no line feed and no blank
pub letter_low : (b : ℕ) → LetterOrDigit b → 48 ≤ b
letter_low b (digit p q) = p
letter_low b (capital p q) = omega arith
letter_low b (small p q) = omega arith

pub filled_length : (l : List ℕ) → length l ≤ width → length (filled l) ≡ width
filled_length l h = length-append l (replicate (width - length l) 0) ∙ omega (arith, length-replicate {A = ℕ} (width - length l) 0)

-- zero bytes do not go on with a byte above zero
zeros_stop : (n : ℕ) → Stops (λ b. 1 ≤ b) (replicate n 0)
zeros_stop zero h p = omega arith
zeros_stop (suc n) h p = omega arith

pub form_nonzero : (l : List ℕ) → Form l → Each (λ b. 1 ≤ b) l
form_nonzero l f k h = omega (arith, letter_low (get_or l k 0) (f.letters k h))

-- a label is known from its filled bytes
pub filled_once : (a b : List ℕ) → Form a → Form b → filled a ≡ filled b → a ≡ b
filled_once a b p q e =
    (front_once (λ x. 1 ≤ x) a (replicate (width - length a) 0) b (replicate (width - length b) 0) (form_nonzero a p) (form_nonzero b q)
    (zeros_stop (width - length a)) (zeros_stop (width - length b)) e).0

-- each label is short enough for its place
abbrev pub Short : List (List ℕ) → Type 0
Short ls = (k : ℕ) → k < length ls → length (get_or ls k []) ≤ width

pub short_tail : (l : List ℕ) (ls : List (List ℕ)) → Short (l ∷ ls) → Short ls
short_tail l ls s k h = s (suc k) (omega arith)

pub slots_length : (ls : List (List ℕ)) → Short ls → length (slots ls) ≡ width * length ls
unfolding slots
slots_length [] s = refl
slots_length (l ∷ ls) s =
    length-append (filled l) (slots ls) ∙ omega (arith, filled_length l (s 0 (omega arith)), slots_length ls (short_tail l ls s))

pub slots_append : (a b : List (List ℕ)) → slots (a ++ b) ≡ slots a ++ slots b
unfolding slots
slots_append [] b = refl
slots_append (l ∷ a) b = ap (λ x. filled l ++ x) (slots_append a b) ∙ sym (append_assoc (filled l) (slots a) (slots b))

-- place k of a buffer that begins with labels holds label k, filled up
pub slot_at : (ls : List (List ℕ)) (x : List ℕ) (k : ℕ) → Short ls → k < length ls → slot (slots ls ++ x) k ≡ filled (get_or ls k [])
unfolding slots
slot_at [] x k s h = absurd (omega arith)
slot_at (l ∷ ls) x zero s h =
    ap (λ y. take width y) (append_assoc (filled l) (slots ls) x) ∙ take_at (filled l) (slots ls ++ x) width (filled_length l (s 0 (omega arith)))
slot_at (l ∷ ls) x (suc k) s h =
    let e : width * suc k ≡ length (filled l) + width * k = omega (arith, filled_length l (s 0 (omega arith))) in
    ap (λ y. take width (drop (width * suc k) y)) (append_assoc (filled l) (slots ls) x)
    ∙ ap (λ i. take width (drop i (filled l ++ (slots ls ++ x)))) e
    ∙ ap (λ y. take width y) (drop-append-add (filled l) (slots ls ++ x) (width * k)) ∙ slot_at ls x k (short_tail l ls s) (omega arith)

pub labels_short : (ls : List (List ℕ)) → Labels ls → Short ls
labels_short ls p k h = (p.form k h).few

-- labels are known from their places
pub slots_once : (a b : List (List ℕ)) → Labels a → Labels b → slots a ≡ slots b → a ≡ b
slots_once a b p q e =
    let n : length a ≡ length b =
    omega (arith, slots_length a (labels_short a p), slots_length b (labels_short b q), ap length e) in
    lib.Seq.ext_get_or [] a b n
    (λ k h.
    filled_once (get_or a k []) (get_or b k []) (p.form k h) (q.form k (omega arith))
    (sym (slot_at a [] k (labels_short a p) h)
    ∙ ap (λ l. slot l k) (append-nil (slots a) ∙ e ∙ sym (append-nil (slots b)))
    ∙ slot_at b [] k (labels_short b q) (omega arith)))

-- one label more
get_d_old : (ls : List (List ℕ)) (l : List ℕ) (k : ℕ) → k < length ls → get_or (ls ++ (l ∷ [])) k [] ≡ get_or ls k []
get_d_old ls l k h = get_or-append ls (l ∷ []) [] k h

get_d_last : (ls : List (List ℕ)) (l : List ℕ) (k : ℕ) → k ≡ length ls → get_or (ls ++ (l ∷ [])) k [] ≡ l
get_d_last ls l k e = ap (λ i. get_or (ls ++ (l ∷ [])) i []) e ∙ get_or-append_seam ls l [] []

pub labels_none : Labels []
labels_none = record { form = λ k h. absurd (omega arith); apart = λ i k p h. absurd (omega arith) }

module _ (ls : List (List ℕ)) (l : List ℕ) where
  pub length_more : length (ls ++ (l ∷ [])) ≡ length ls + 1
  length_more = length-append ls (l ∷ [])

  pub labels_more : Labels ls → Form l → New ls l → Labels (ls ++ (l ∷ []))
  labels_more p f n =
      record {
        form = λ k h.
            elim (ℕ_discrete k (length ls)) [
              | yes e ↦ subst⁻¹ (λ x. Form x) (get_d_last ls l k e) f
              | no ne ↦ subst⁻¹ (λ x. Form x) (get_d_old ls l k (omega (arith, length_more))) (p.form k (omega (arith, length_more)))
            ];
        apart = λ i k g h same.
            elim (ℕ_discrete k (length ls)) [
              | yes e ↦ n i (omega arith) (sym (get_d_old ls l i (omega arith)) ∙ same ∙ get_d_last ls l k e)
              | no ne ↦ p.apart i k g (omega (arith, length_more))
                  (sym (get_d_old ls l i (omega (arith, length_more))) ∙ same ∙ get_d_old ls l k (omega (arith, length_more)))
            ];
      }

-- labels of which a last one is taken away
pub labels_front : (a b : List (List ℕ)) → Labels (a ++ b) → Labels a
labels_front a b p =
    record {
      form = λ k h. subst (λ x. Form x) (get_or-append a b [] k h) (p.form k (omega (arith, length-append a b)));
      apart = λ i k g h same.
          p.apart i k g (omega (arith, length-append a b)) (get_or-append a b [] i (omega arith) ∙ same ∙ sym (get_or-append a b [] k h));
    }

pub labels_new : (a : List (List ℕ)) (l : List ℕ) (b : List (List ℕ)) → Labels (a ++ l ∷ b) → New a l
labels_new a l b p k h same =
    p.apart k (length a) h (omega (arith, length-append a (l ∷ b)))
    (get_or-append a (l ∷ b) [] k h ∙ same ∙ sym (get_or-append_seam a l b []))

pub labels_form : (a : List (List ℕ)) (l : List ℕ) (b : List (List ℕ)) → Labels (a ++ l ∷ b) → Form l
labels_form a l b p =
    subst (λ x. Form x) (get_or-append_seam a l b []) (p.form (length a) (omega (arith, length-append a (l ∷ b))))

-- the ways through the tests of a byte
pub letter_gap : (b : ℕ) → 57 < b → b < 65 → LetterOrDigit b → ⊥
letter_gap b p q (digit g h) = omega arith
letter_gap b p q (capital g h) = omega arith
letter_gap b p q (small g h) = omega arith

pub letter_gap_2 : (b : ℕ) → 90 < b → b < 97 → LetterOrDigit b → ⊥
letter_gap_2 b p q (digit g h) = omega arith
letter_gap_2 b p q (capital g h) = omega arith
letter_gap_2 b p q (small g h) = omega arith

pub letter_high : (b : ℕ) → LetterOrDigit b → b ≤ 122
letter_high b (digit g h) = omega arith
letter_high b (capital g h) = omega arith
letter_high b (small g h) = h
