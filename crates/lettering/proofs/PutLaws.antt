-- A room that is written from the front, text after text. Assumes nothing.
use mathlib.Core.Path.{◌≡◌, refl, sym, ap, subst, ◌∙◌}
use mathlib.Core.List.{List, [], ◌∷◌, ◌++◌, append_assoc, append-nil}
use Prim.Native.Nat.{ℕ, suc, ◌+◌, ◌-◌, ◌/◌, ◌%◌, ◌<◌, ◌≤◌}
use native.Mathlib.Omega.{arith}
use native.Mathlib.Numerals.{add-one}
use lib.ListN.{length, get_or, set, take, drop, drop_of_length-le, length-drop, length-append}
use lib.Seq.{drop-drop, drop_at, take_at, take_all, drop-cons, set_at}
use Rattle.sheet.specs.Text.{over, text}
use Rattle.sheet.proofs.Numbers.{text_small, text_large}
use Rattle.lettering.specs.Putting.{Puts}

pub over_length : {A : Type 0} (a o : List A) → length a ≤ length o → length (over a o) ≡ length o
over_length a o h = length-append a (drop (length a) o) ∙ omega (arith, length-drop (length a) o)

pub puts_none : (o : List ℕ) → Puts [] o o 0
puts_none o = record { is_length = refl; is = refl }

-- the same text, written down otherwise
pub puts_same : (a b o o' : List ℕ) (n : ℕ) → a ≡ b → Puts a o o' n → Puts b o o' n
puts_same a b o o' n e p = subst (λ x. Puts x o o' n) e p

module _ (a o o' : List ℕ) (n : ℕ) (p : Puts a o o' n) where
  pub puts_length : length a ≤ length o → length o' ≡ length o
  puts_length h = ap length p.is ∙ over_length a o h

  -- one byte after the text
  pub puts_byte : (b : ℕ) → length a < length o → Puts (a ++ b ∷ []) o (set o' n b) (n + 1)
  puts_byte b h =
      record {
        is_length = omega (arith, p.is_length, length-append a (b ∷ []));
        is =
            ap (λ x. set x n b) (p.is ∙ ap (λ x. a ++ x) (drop-cons o (length a) 0 h))
            ∙ set_at a (get_or o (length a) 0) (drop (suc (length a)) o) b n (sym p.is_length)
            ∙ sym (append_assoc a (b ∷ []) (drop (suc (length a)) o))
            ∙ ap (λ x. (a ++ b ∷ []) ++ drop x o) (sym (add-one (length a)) ∙ sym (length-append a (b ∷ [])));
      }

  -- a second text in the tail that the first left free, from n on and k long, which was lent
  pub puts_tail : (b ys : List ℕ) (m k : ℕ) → k ≡ length o' - n → Puts b (take k (drop n o')) ys m → length a + length b ≤ length o
      → Puts (a ++ b) o (take n o' ++ (ys ++ drop k (drop n o'))) (n + m)
  puts_tail b ys m k g y h =
      let w : length o' ≡ length o = puts_length (omega arith) in
      let e : length a ≡ n = sym p.is_length in
      let t : drop n o' ≡ drop (length a) o = ap (λ l. drop n l) p.is ∙ drop_at a (drop (length a) o) n e in
      let f : take n o' ≡ a = ap (λ l. take n l) p.is ∙ take_at a (drop (length a) o) n e in
      let u : take k (drop n o') ≡ drop (length a) o =
      ap (λ l. take k l) t ∙ take_all k (drop (length a) o) (omega (arith, length-drop (length a) o)) in
      let v : drop k (drop n o') ≡ [] = drop_of_length-le (drop n o') {i = k} (omega (arith, length-drop n o')) in
      record {
        is_length = omega (arith, p.is_length, y.is_length, length-append a b);
        is =
            ap (λ l. l ++ (ys ++ drop k (drop n o'))) f
            ∙ ap (λ l. a ++ (ys ++ l)) v
            ∙ ap (λ l. a ++ l) (append-nil ys ∙ y.is ∙ ap (λ l. over b l) u)
            ∙ ap (λ l. a ++ (b ++ l)) (drop-drop (length b) (length a) o ∙ ap (λ i. drop i o) (sym (length-append a b)))
            ∙ sym (append_assoc a b (drop (length (a ++ b)) o));
      }

  -- the room that is left
  pub left_room : (b : List ℕ) (k : ℕ) → k ≡ length o' - n → length a + length b ≤ length o → length b ≤ length (take k (drop n o'))
  left_room b k g h =
      let w : length o' ≡ length o = puts_length (omega arith) in
      rw (take_all k (drop n o') (omega (arith, length-drop n o'))) (omega (arith, length-drop n o', p.is_length))

-- a number: one digit, or its tens and one digit more
pub number_one : (v : ℕ) (o : List ℕ) → v < 10 → 0 < length o → Puts (text v) o (set o 0 (48 + v)) 1
number_one v o h g = puts_same ((48 + v) ∷ []) (text v) o (set o 0 (48 + v)) 1 (sym (text_small v h)) (puts_byte [] o o 0 (puts_none o) (48 + v) g)

pub number_more : (v : ℕ) (o o' : List ℕ) (k : ℕ) → 10 ≤ v → length (text v) ≤ length o → Puts (text (v / 10)) o o' k
    → Puts (text v) o (set o' k (48 + v % 10)) (k + 1)
number_more v o o' k h g p =
    let e : text v ≡ text (v / 10) ++ ((48 + v % 10) ∷ []) = text_large v h in
    puts_same (text (v / 10) ++ ((48 + v % 10) ∷ [])) (text v) o (set o' k (48 + v % 10)) (k + 1) (sym e)
    (puts_byte (text (v / 10)) o o' k p (48 + v % 10) (omega (arith, ap length e, length-append (text (v / 10)) ((48 + v % 10) ∷ []))))

-- Of a whole text the front was put into a room that has space for all of it, and the text r comes next. From this a function goes on
-- that puts one text after the other, each in the tail that those before it left: what the room holds by then, and where its tail begins.
pub record Begun (whole r o : List ℕ) : Type 0 where
  pub room : List ℕ
  pub at : ℕ
  pub front : List ℕ
  pub put : Puts front o room at
  pub parts : front ++ r ≡ whole
  pub fits : length whole ≤ length o

abbrev pub begun : {a o o' : List ℕ} {n : ℕ} (r : List ℕ) → length (a ++ r) ≤ length o → Puts a o o' n → Begun (a ++ r) r o
begun {a} {o} {o'} {n} r h p = record { room = o'; at = n; front = a; put = p; parts = refl; fits = h }

module _ {whole r o : List ℕ} (s : Begun whole r o) where
  rest_fits : length s.front + length r ≤ length o
  rest_fits = omega (arith, ap length s.parts, s.fits, length-append s.front r)

  pub tail_inside : s.at ≤ length s.room
  tail_inside = omega (arith, rest_fits, s.put.is_length, puts_length s.front o s.room s.at s.put (omega (arith, rest_fits)))

  -- once the rest is put in the tail too, the whole text is put
  pub last_put : {ys : List ℕ} {m : ℕ} → Puts r (take (length s.room - s.at) (drop s.at s.room)) ys m
      → Puts whole o (take s.at s.room ++ (ys ++ drop (length s.room - s.at) (drop s.at s.room))) (s.at + m)
  last_put {ys} {m} q = puts_same _ _ _ _ _ s.parts (puts_tail s.front o s.room s.at s.put r ys m _ refl q rest_fits)

module _ {whole o : List ℕ} (b r : List ℕ) (s : Begun whole (b ++ r) o) where
  next_fits : length s.front + length b ≤ length o
  next_fits = omega (arith, rest_fits s, length-append b r)

  -- the next text has room in the tail
  pub next_room : length b ≤ length (take (length s.room - s.at) (drop s.at s.room))
  next_room = left_room s.front o s.room s.at s.put b _ refl next_fits

  pub both_put : {ys : List ℕ} {m : ℕ} → Puts b (take (length s.room - s.at) (drop s.at s.room)) ys m
      → Puts (s.front ++ b) o (take s.at s.room ++ (ys ++ drop (length s.room - s.at) (drop s.at s.room))) (s.at + m)
  both_put {ys} {m} q = puts_tail s.front o s.room s.at s.put b ys m _ refl q next_fits

  -- and once it is put there, the one after it comes next
  abbrev pub next_put : {ys : List ℕ} {m : ℕ} → Puts b (take (length s.room - s.at) (drop s.at s.room)) ys m → Begun whole r o
  next_put {ys} {m} q =
      record {
        room = take s.at s.room ++ (ys ++ drop (length s.room - s.at) (drop s.at s.room));
        at = s.at + m;
        front = s.front ++ b;
        put = both_put q;
        parts = append_assoc s.front b r ∙ s.parts;
        fits = s.fits;
      }
