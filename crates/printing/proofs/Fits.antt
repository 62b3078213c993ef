-- Every printed answer fits the room that is enough: its sections are few, and each has few and short lines. Assumes nothing.
use mathlib.Core.Path.{◌≡◌, refl, ap}
use mathlib.Core.List.{List, [], ◌∷◌, ◌++◌, map}
use Rattle.std.specs.List.{flat_map}
use Prim.Native.Nat.{ℕ, zero, suc, ◌+◌, ◌*◌, ◌≤◌, ◌<◌}
use Prim.Native.String.{String}
use native.Mathlib.Decide.{dec_le}
use native.Mathlib.Omega.{arith}
use lib.IntN.{ℤ, pos, negsuc}
use lib.ListN.{length, get_or, length-append, length-map}
use Rattle.theory.specs.Limits.{row_limit, sheet_limit, addition_found}
use Rattle.theory.specs.Lists.{nums, ints}
use Rattle.theory.specs.Table.{Order, entry}
use Rattle.theory.proofs.Signed.{signed as signs}
use Rattle.theory.proofs.Counts.{count_most}
use Rattle.theory.proofs.Index.{index_low}
use Rattle.orders.specs.Refusals.{Said, refuses}
use Rattle.handed.specs.Handed.{Sound}
use Rattle.handed.proofs.Basics.{in_size, sized}
use Rattle.canon.proofs.Theorems.{found_within}
use Rattle.sheet.specs.Text.{blank, feed, ascii, text, digits, signed, ended}
use Rattle.sheet.specs.Sheet.{ended_lines, Labelled, Stands, TooLong}
use Rattle.sheet.specs.FirstWrong.{FirstWrong}
use Rattle.sheet.proofs.Numbers.{text_within}
use Rattle.page.specs.Printed.{Figures, Section, numbers, integers, sections, section_text, refused_name, spaced, printed}
use Rattle.printing.specs.Room.{line_room, section_room, enough}
use Rattle.printing.specs.Promise.{FiguresOf, TableSays, no_transversal, solved, SheetSays, too_long, wrong_line, of_table}

-- ---- sections that are short
-- a section with a name of at most ten bytes, at most a line for every row, and lines that are not too long
record Short (s : Section) : Type 0 where
  name_short : length s.name ≤ 10
  few : length s.values ≤ row_limit
  lines_short : length (ended_lines s.values) ≤ line_room * length s.values

section_fits : (s : Section) → Short s → length (section_text s) ≤ section_room
section_fits s h =
    let heading = (s.name ++ blank ∷ []) ++ text (length s.values) in
    omega (
      arith,
      length-append (ended heading) (ended_lines s.values),
      length-append heading (feed ∷ []),
      length-append (s.name ++ blank ∷ []) (text (length s.values)),
      length-append s.name (blank ∷ []),
      text_within 3 (length s.values) (omega (arith, h.few)),
      h.name_short,
      h.few,
      h.lines_short,
    )

infixr 40 ◌also◌
data AllShort : List Section → Type 0 where
  none : AllShort []
  ◌also◌ : {s : Section} {ss : List Section} → Short s → AllShort ss → AllShort (s ∷ ss)

sections_fit : {ss : List Section} → AllShort ss → length (flat_map section_text ss) ≤ section_room * length ss
sections_fit none = omega arith
sections_fit (◌also◌ {s} {ss} h more) =
    omega (arith, length-append (section_text s) (flat_map section_text ss), section_fits s h, sections_fit more)

-- ---- values of at most ten digits
-- the largest of them
abbrev widest : ℕ
widest = 9999999999

lines_within : {A : Type 0} (f : A → List ℕ) (d : A) (l : List A) → ((k : ℕ) → k < length l → length (ended (f (get_or l k d))) ≤ line_room)
    → length (ended_lines (map f l)) ≤ line_room * length (map f l)
unfolding ended_lines
lines_within f d [] each = omega arith
lines_within f d (x ∷ l) each =
    omega (
      arith,
      length-append (ended (f x)) (ended_lines (map f l)),
      each 0 (omega arith),
      lines_within f d l (λ k h. each (suc k) (omega arith)),
    )

numbers_short : (name : String) (l : List ℕ) → length (ascii name) ≤ 10 → length l ≤ row_limit → ((k : ℕ) → k < length l → nums l k ≤ widest)
    → Short (numbers name l)
numbers_short name l brief few small =
    record {
      name_short = brief;
      few = omega (arith, length-map l text);
      lines_short =
          lines_within text 0 l (λ k h. omega (arith, length-append (text (nums l k)) (feed ∷ []), text_within 9 (nums l k) (omega (arith, small k h))));
    }

signed_within : (z : ℤ) → Order widest z → length (signed z) ≤ 11
signed_within (pos n) h = omega (arith, text_within 9 n (omega (arith, signs, h.high)))
signed_within (negsuc n) h = omega (arith, text_within 9 (suc n) (omega (arith, signs, h.low)))

integers_short : (name : String) (l : List ℤ) → length (ascii name) ≤ 10 → length l ≤ row_limit → ((k : ℕ) → k < length l → Order widest (ints l k))
    → Short (integers name l)
integers_short name l brief few small =
    record {
      name_short = brief;
      few = omega (arith, length-map l signed);
      lines_short =
          lines_within signed (pos 0) l (λ k h. omega (arith, length-append (signed (ints l k)) (feed ∷ []), signed_within (ints l k) (small k h)));
    }

-- what holds of the one element of a list
only : {A : Type 0} (P : A → Type 0) (x d : A) → P x → (k : ℕ) → k < 1 → P (get_or (x ∷ []) k d)
only P x d p zero h = p
only P x d p (suc k) h = absurd (omega arith)

-- ---- the answer of a table: what is found is far below ten digits
-- the index figure is at most one more than some addition
figure_small : (n : ℕ) (t : List ℤ) (f : Figures) → FiguresOf n t f → ((i : ℕ) → i < n → nums f.adds i ≤ addition_found row_limit) → f.index ≤ widest
figure_small n t f p low =
    let (i, hi, le) = index_low n (entry t n) p.is_index in omega (arith, low i hi)

figures_short : (n : ℕ) (t : List ℤ) (f : Figures) → Sound n t [] → FiguresOf n t f → AllShort (sections f)
figures_short n t f h p =
    let few = (sized h.in_size).1 in
    let w = found_within t f.adds f.stars f.heads few h.square.square h.entries p.solution in
    let adds = numbers_short "adds" f.adds (omega arith) (omega (arith, p.adds_long))
    (λ k i. omega (arith, w.addition_most k (omega (arith, p.adds_long)))) in
    let stars = numbers_short "stars" f.stars (omega arith) (omega (arith, p.star_list.long))
    (λ k i. omega (arith, p.star_list.to_size k (omega (arith, p.star_list.long)))) in
    let heads = integers_short "heads" f.heads (omega arith) (omega (arith, p.heads_long))
    (λ k i.
    let j : k < n = omega (arith, p.heads_long) in
    record { low = omega (arith, signs, w.head_least k j); high = omega (arith, signs, w.head_most k j) }) in
    let ties = numbers_short "ties" f.ties (omega arith) (omega (arith, p.ties_long))
    (λ k i. omega (arith, count_most n (p.is_ties k (omega (arith, p.ties_long))))) in
    let sum = integers_short "sum" (f.sum ∷ []) (omega arith) (omega arith)
    (only (Order widest) f.sum (pos 0) (record { low = omega (arith, signs, w.sum_least); high = omega (arith, signs, w.sum_most) })) in
    let index = numbers_short "index" (f.index ∷ []) (omega arith) (omega arith)
    (only (λ v. v ≤ widest) f.index 0 (figure_small n t f p w.addition_most)) in
    adds also stars also heads also ties also sum also index also none

none_printed : printed (refuses 6 []) ≡ ascii "refused 6\n"
unfolding text digits
none_printed = refl

pub table_fits : (n : ℕ) (t : List ℤ) (a : Said Figures) → Sound n t [] → TableSays n t a → length (printed a) ≤ enough
table_fits n t a h (no_transversal u e) = omega (arith, ap (λ x. length (printed x)) e, ap length none_printed)
table_fits n t a h (solved f p e) =
    omega (arith, ap (λ x. length (printed x)) e, sections_fit (figures_short n t f h p))

-- ---- the answer of a sheet
-- the number of a wrong line: each line before it takes a byte at least
lines_some : (ls : List (List ℕ)) → length ls ≤ length (ended_lines ls)
unfolding ended_lines
lines_some [] = omega arith
lines_some (l ∷ ls) = omega (arith, lines_some ls, length-append (ended l) (ended_lines ls), length-append l (feed ∷ []))

line_within : (s : List ℕ) (k : ℕ) → FirstWrong s k → k ≤ 1 + length s
line_within s k f = omega (arith, f.number, lines_some f.before, ap length f.parts, length-append (ended_lines f.before) f.rest)

long_printed : printed (refuses 9 []) ≡ ascii "refused 9\n"
unfolding text digits
long_printed = refl

line_printed : (k : ℕ) → k ≤ widest → length (printed (refuses 10 (k ∷ []))) ≤ enough
line_printed k small =
    omega (
      arith,
      length-append (refused_name ++ spaced (10 ∷ k ∷ [])) (feed ∷ []),
      length-append refused_name (spaced (10 ∷ k ∷ [])),
      length-append (text 10) (spaced (k ∷ [])),
      length-append (text k) [],
      text_within 1 10 (omega arith),
      text_within 9 k (omega arith),
    )

few_bytes : (s : List ℕ) → (TooLong s → ⊥) → length s ≤ sheet_limit
few_bytes s f = elim (dec_le (length s) sheet_limit) [ yes h ↦ h | no g ↦ absurd (f (omega arith)) ]

-- a table that was read is sound
pub stands_sound : (t : Labelled) → Stands t → Sound (length t.row_labels) t.entries []
stands_sound t w =
    record {
      in_size = in_size (λ z. omega (arith, w.some)) w.few;
      square = record { small = w.few; square = w.square };
      fitting = tt;
      entries = w.entries_stand;
    }

-- "Every call ends properly on every input": a room that is enough is never refused by 12.
pub answers_fit : (s : List ℕ) (a : Said Figures) → SheetSays s a → length (printed a) ≤ enough
answers_fit s a (too_long l e) = omega (arith, ap (λ x. length (printed x)) e, ap length long_printed)
answers_fit s a (wrong_line k l r e) =
    omega (arith, ap (λ x. length (printed x)) e, line_printed k (omega (arith, line_within s k r, few_bytes s l)))
answers_fit s a (of_table t l r p) =
    table_fits (length t.row_labels) t.entries a (stands_sound t r.stands) p
