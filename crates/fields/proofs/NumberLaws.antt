-- A number read digit by digit at the front of a text, and what follows for a field and for a text that is one number. Assumes nothing.
use mathlib.Core.Path.{◌≡◌, refl, sym, ap, subst⁻¹, ◌∙◌}
use mathlib.Core.List.{List, [], ◌∷◌, ◌++◌, append-nil}
use Prim.Native.Nat.{ℕ, suc, ◌+◌, ◌-◌, ◌*◌, ◌<◌, ◌≤◌}
use native.Mathlib.Omega.{arith}
use native.Mathlib.Decide.{ℕ_discrete}
use native.Mathlib.Numerals.{add-one}
use lib.ListN.{length, get_or, take, drop, take-append-drop, drop_of_length-le, length-append, length-drop, get_or-append}
use lib.Seq.{take-suc, drop_at, drop-cons, drop-append-add, length-take-le}
use Rattle.sheet.specs.Text.{blank, Digit, NoDigit, text}
use Rattle.sheet.proofs.Bytes.{run_prefix, each_cons, each_one}
use Rattle.sheet.proofs.Numbers.{text_small, text_next, text_digits, text_some, text_first, number_once}
use Rattle.sheet.proofs.Numbers.{value_text, value_append, value_grows, value_from}
use Rattle.sheet.proofs.Lines.{blank_stops}
use Rattle.fields.specs.declared.Front.{Front}
use Rattle.fields.specs.Fields.{FrontIs, FieldIs, NumberIs}

-- the first i bytes of s are digits with the value v
pub data SoFar (s : List ℕ) (i v : ℕ) : Type 0 where
  none : i ≡ 0 → v ≡ 0 → SoFar s i v
  some : take i s ≡ text v → SoFar s i v

-- What the loop of `front_number` meets: one digit more, a digit behind a leading zero, a value above the limit. In the last two
-- no number stands at the front, since the digits of one that did would be these and go on.
module _ (s : List ℕ) (i v : ℕ) where
  pub one_more : SoFar s i v → i < length s → Digit (get_or s i 0) → (i ≡ 1 → v ≡ 0 → ⊥) → SoFar s (i + 1) (v * 10 + (get_or s i 0 - 48))
  one_more (none e z) h d n =
      let f : 48 + (v * 10 + (get_or s i 0 - 48)) ≡ get_or s i 0 = omega arith in
      some
      (rw add-one
      (take-suc s i 0 h
      ∙ ap (λ x. take x s ++ (get_or s i 0 ∷ [])) e
      ∙ ap (λ x. x ∷ []) (sym f) ∙ sym (text_small (v * 10 + (get_or s i 0 - 48)) (omega arith))))
  one_more (some e) h d n =
      elim (ℕ_discrete v 0) [
        | yes z ↦ absurd (n (sym (length-take-le i s (omega arith)) ∙ ap length (e ∙ ap text z ∙ text_small 0 (omega arith))) z)
        | no nz ↦ let f : 48 + (get_or s i 0 - 48) ≡ get_or s i 0 = omega arith in
            some
            (rw add-one
            (take-suc s i 0 h
            ∙ ap (λ x. x ++ (get_or s i 0 ∷ [])) e
            ∙ ap (λ x. text v ++ (x ∷ [])) (sym f) ∙ sym (text_next v (get_or s i 0 - 48) (omega arith) (omega arith))))
      ]

  module _ (limit : ℕ) where
    pub leading_zero : SoFar s i v → i ≡ 1 → v ≡ 0 → i < length s → Digit (get_or s i 0) → (f : Front) → FrontIs s limit f → ⊥
    leading_zero (none e z) o n h d f g' = absurd (omega arith)
    leading_zero (some e) o n h d f g' =
        let two : List ℕ = 48 ∷ get_or s i 0 ∷ [] in
        let t : take i s ≡ 48 ∷ [] = e ∙ ap text n ∙ text_small 0 (omega arith) in
        let g : take (suc i) s ≡ two = take-suc s i 0 h ∙ ap (λ y. y ++ (get_or s i 0 ∷ [])) t in
        let p : two ++ drop (suc i) s ≡ text f.value ++ drop f.taken s =
        ap (λ y. y ++ drop (suc i) s) (sym g) ∙ take-append-drop (suc i) s ∙ g'.parts in
        let r : (z : List ℕ) × (text f.value ≡ two ++ z) × (drop (suc i) s ≡ z ++ drop f.taken s) =
        run_prefix Digit two (drop (suc i) s) (text f.value) (drop f.taken s)
        (each_cons Digit 48 (get_or s i 0 ∷ []) (omega arith) (each_one Digit (get_or s i 0) d)) g'.stops p in
        elim (ℕ_discrete f.value 0) [
          | yes z ↦ absurd (omega (arith, ap length (sym r.1 ∙ ap text z ∙ text_small 0 (omega arith)), length-append two r.0))
          | no nz ↦ absurd (omega (arith, text_first f.value (omega arith), ap (λ y. get_or y 0 0) r.1))
        ]

    pub above_limit : SoFar s i v → limit < v → (f : Front) → FrontIs s limit f → ⊥
    above_limit (none e z) g f g' = absurd (omega arith)
    above_limit (some e) g f g' =
        let p : text v ++ drop i s ≡ text f.value ++ drop f.taken s = ap (λ y. y ++ drop i s) (sym e) ∙ take-append-drop i s ∙ g'.parts in
        let r : (z : List ℕ) × (text f.value ≡ text v ++ z) × (drop i s ≡ z ++ drop f.taken s) =
        run_prefix Digit (text v) (drop i s) (text f.value) (drop f.taken s) (text_digits v) g'.stops p in
        let a : f.value ≡ value_from v r.0 =
        sym (value_text f.value) ∙ ap (λ y. value_from 0 y) r.1 ∙ value_append 0 (text v) r.0 ∙ ap (λ y. value_from y r.0) (value_text v) in
        absurd (omega (arith, value_grows v r.0, g'.small))

-- a text that does not begin with a digit begins with no number
pub no_digit : (s : List ℕ) (limit : ℕ) → NoDigit s → (f : Front) → FrontIs s limit f → ⊥
no_digit s limit d f g' =
    subst⁻¹ (λ y. NoDigit y) (sym g'.parts) d (omega (arith, length-append (text f.value) (drop f.taken s), text_some f.value))
    (rw (get_or-append (text f.value) (drop f.taken s) 0 0 (text_some f.value)) (text_digits f.value 0 (text_some f.value)))

-- a text that ends, or goes on with another byte
pub stops_end : (s : List ℕ) (i : ℕ) → length s ≤ i → NoDigit (drop i s)
stops_end s i h l d = omega (arith, length-drop i s)

pub stops_byte : (s : List ℕ) (i : ℕ) → i < length s → (Digit (get_or s i 0) → ⊥) → NoDigit (drop i s)
stops_byte s i h n l d = n (rw (drop-cons s i 0 h) at d)

-- a number with another byte, or nothing, behind it stands at the front
pub front_of : (s : List ℕ) (limit v : ℕ) (x : List ℕ) → v ≤ limit → NoDigit x → s ≡ text v ++ x → FrontIs s limit (record { value = v; taken = length (text v) })
front_of s limit v x l n e =
    let d : drop (length (text v)) s ≡ x = ap (λ y. drop (length (text v)) y) e ∙ drop_at (text v) x (length (text v)) refl in
    record {
      small = l;
      inside = omega (arith, ap length e, length-append (text v) x);
      parts = e ∙ ap (λ y. text v ++ y) (sym d);
      stops = subst⁻¹ (λ y. NoDigit y) d n;
    }

-- a number from 1 on with a blank behind it is the first field
pub field_of : (s : List ℕ) (limit v : ℕ) (x : List ℕ) → 1 ≤ v → v ≤ limit → s ≡ text v ++ blank ∷ x
    → FieldIs s limit (record { value = v; taken = length (text v) + 1 })
field_of s limit v x p l e =
    let d : drop (length (text v) + 1) s ≡ x = ap (λ y. drop (length (text v) + 1) y) e ∙ drop-append-add (text v) (blank ∷ x) 1 in
    record {
      some = p;
      small = l;
      inside = omega (arith, ap length e, length-append (text v) (blank ∷ x));
      parts = e ∙ ap (λ y. text v ++ blank ∷ y) (sym d);
    }

-- where no number stands at the front there is no field, and the text is no number
module _ (s : List ℕ) (limit : ℕ) (nothing : (f : Front) → FrontIs s limit f → ⊥) where
  pub no_field : (f : Front) → FieldIs s limit f → ⊥
  no_field f g = nothing _ (front_of s limit f.value (blank ∷ drop f.taken s) g.small (blank_stops (drop f.taken s)) g.parts)

  pub no_number : (v : ℕ) → NumberIs s limit v → ⊥
  no_number v g = nothing _ (front_of s limit v [] g.small (λ h d. omega arith) (g.is ∙ sym (append-nil (text v))))

-- where one does, it is the text or the first field of it, or there is none
module _ {s : List ℕ} {limit : ℕ} {f : Front} (g : FrontIs s limit f) where
  pub bytes_behind : f.taken < length s → (w : ℕ) → NumberIs s limit w → ⊥
  bytes_behind h w m =
      let r = number_once w f.value [] (drop f.taken s) (λ x d. omega arith) g.stops (append-nil (text w) ∙ sym m.is ∙ g.parts) in
      omega (arith, ap length r.1, length-drop f.taken s)

  pub all_of_it : length s ≤ f.taken → NumberIs s limit f.value
  all_of_it h =
      record {
        small = g.small;
        is = g.parts ∙ ap (λ x. text f.value ++ x) (drop_of_length-le s {i = f.taken} h) ∙ append-nil (text f.value);
      }

  -- the number and the rest, when a blank follows
  then_blank : (w : Front) → FieldIs s limit w → (f.value ≡ w.value) × (drop f.taken s ≡ blank ∷ drop w.taken s)
  then_blank w m =
      number_once f.value w.value (drop f.taken s) (blank ∷ drop w.taken s) g.stops (blank_stops (drop w.taken s)) (sym g.parts ∙ m.parts)

  pub field_zero : f.value ≡ 0 → (w : Front) → FieldIs s limit w → ⊥
  field_zero z w m = omega (arith, (then_blank w m).0, m.some)

  pub field_other : (f.taken < length s → get_or s f.taken 0 ≡ blank → ⊥) → (w : Front) → FieldIs s limit w → ⊥
  field_other n w m =
      let h : f.taken < length s = omega (arith, ap length (then_blank w m).1, length-drop f.taken s) in
      n h (ap (λ y. get_or y 0 0) (sym (drop-cons s f.taken 0 h) ∙ (then_blank w m).1))

-- what stands behind a field
pub behind_field : {s : List ℕ} {limit : ℕ} {f : Front} → FieldIs s limit f → (w : ℕ) (x : List ℕ) → s ≡ text w ++ blank ∷ x
    → (f.value ≡ w) × (drop f.taken s ≡ x)
behind_field {s} {limit} {f} g w x e =
    let r = number_once f.value w (blank ∷ drop f.taken s) (blank ∷ x) (blank_stops (drop f.taken s)) (blank_stops x) (sym g.parts ∙ e) in
    (r.0, ap (λ y. drop 1 y) r.1)
