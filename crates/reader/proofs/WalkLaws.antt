-- The walk over sections and lines: what is known before a heading and before a line, and what one line more changes. Assumes nothing.
use mathlib.Core.Path.{◌≡◌, refl, sym, ap, subst, subst⁻¹, ◌∙◌}
use mathlib.Core.List.{List, []}
use Prim.Native.Nat.{ℕ, suc, ◌+◌, ◌-◌, ◌*◌, ◌<◌, ◌≤◌}
use native.Mathlib.Omega.{arith}
use native.Mathlib.Nat.{mul-le-mul}
use native.Mathlib.Numerals.{add-one}
use lib.ListN.{length, drop, replicate, drop_of_length-le}
use Rattle.theory.specs.Limits.{row_limit}
use Rattle.theory.specs.Table.{absent}
use Rattle.sheet.specs.Labels.{width, slots}
use Rattle.sheet.specs.Reading.{Ended, following, State, start, Heading, After, heading, row_label, col_label, order_line, begun}
use Rattle.sheet.specs.Reading.{Final, table_of, Outcome, good, wrong, Reads, done, short, unfit, next, WrongLine}
use Rattle.sheet.proofs.Lines.{Cut, unbroken, broken, cut, rank}
use Rattle.sheet.proofs.Slots.{labels_none}
use Rattle.fields.specs.declared.Front.{Front}
use Rattle.fields.proofs.LineLaws.{behind_line, line_length}
use Rattle.lines.specs.declared.size.Size.{Size}
use Rattle.lines.specs.declared.Section.{Section}
use Rattle.lines.specs.declared.Section.TheVariants.{Rows, Cols, Orders}
use Rattle.lines.specs.declared.Kept.{Kept}
use Rattle.lines.specs.Parts.{meant, before, HeadingCount, HeadingIs, Holds, row_count, col_count, InSection, LineTaken}
use Rattle.reader.specs.Parts.{Ends}

-- ---- one line after the other
-- The lines passed said st, and what is left of the sheet begins with line `line`: a reading of it from there is a reading of the whole.
-- There are no more lines than bytes.
pub record Reached (s : List ℕ) (st : State) (line : ℕ) (rest : List ℕ) : Type 0 where
  pub whole : (o : Outcome) → Reads st line rest o → Reads start 1 s o
  pub few_lines : line + length rest ≤ length s + 1

-- one line more is passed
pub pass : (s : List ℕ) (st st' : State) (line taken : ℕ) (rest l : List ℕ) → Reached s st line rest → Ended rest l (drop taken rest) → After st l st'
    → Reached s st' (line + 1) (drop taken rest)
pass s st st' line taken rest l r e a =
    record {
      whole = λ o t. r.whole o (next l (drop taken rest) st' e a (subst (λ x. Reads st' x (drop taken rest) o) (add-one line) t));
      few_lines = omega (arith, r.few_lines, line_length e);
    }

-- the first line left cannot stand, or is missing or unended
pub halt : (s : List ℕ) (st : State) (line : ℕ) (rest : List ℕ) → Reached s st line rest → (Final st → ⊥)
    → ((l x : List ℕ) (st' : State) → Ended rest l x → After st l st' → ⊥) → WrongLine s line
halt s st line rest r due none = go (cut rest)
  where
    go : Cut rest → WrongLine s line
    go (unbroken u) = r.whole (wrong line) (short u (λ z f. due f) refl)
    go (broken l x e) = r.whole (wrong line) (unfit l x e (λ st' a. none l x st' e a) refl)

-- after the last line nothing can stand
final_none : (st : State) (l : List ℕ) → Final st → (st' : State) → After st l st' → ⊥
final_none st l f st' (heading c z h e) = subst (λ x. Heading x (length st.row_labels) c l) f.last h
final_none st l f st' (row_label m s z g h e) = omega (arith, f.none_left)
final_none st l f st' (col_label m s z g h e) = omega (arith, f.none_left)
final_none st l f st' (order_line m i j v s z p q o r u e) = omega (arith, f.none_left)

surplus : (st : State) (k : ℕ) (s : List ℕ) → Final st → (s ≡ [] → ⊥) → Cut s → Reads st k s (wrong k)
surplus st k s f some (unbroken u) = short u (λ z g. some z) refl
surplus st k s f some (broken l x e) = unfit l x e (λ st' a. final_none st l f st' a) refl

-- ---- sections, case by case
-- how many sections come after
abbrev pub sections_left : Section → ℕ
sections_left Rows = 2
sections_left (Cols size) = 1
sections_left (Orders size) = 0

-- a section of labels has N lines
abbrev Sized : Section → ℕ → Type 0
Sized Rows c = c ≤ row_limit
Sized (Cols size) c = c ≡ size.n
Sized (Orders size) c = Unit

follows : (section : Section) → following (before section) ≡ meant section
follows Rows = refl
follows (Cols size) = refl
follows (Orders size) = refl

before_last : (section : Section) → rank (before section) < 3
before_last Rows = omega arith
before_last (Cols size) = omega arith
before_last (Orders size) = omega arith

heading_sized : (section : Section) (c : ℕ) (l : List ℕ) → HeadingCount section l c → Sized section c
heading_sized Rows c l h = h.1
heading_sized (Cols size) c l h = h.0
heading_sized (Orders size) c l h = tt

-- ---- before a section's heading
pub record BeforeHeading (s : List ℕ) (kept : Kept) (section : Section) (line : ℕ) (rest : List ℕ) : Type 0 where
  pub st : State
  pub reached : Reached s st line rest
  pub held : Holds kept st
  pub section_is : st.section ≡ before section
  pub none_left : st.left ≡ 0
  pub rows_are : length st.row_labels ≡ row_count section 0
  pub cols_are : length st.col_labels ≡ col_count section 0

-- ---- before line k of c lines of a section, k counted from 0
pub record BeforeLine (s : List ℕ) (kept : Kept) (section : Section) (line : ℕ) (rest : List ℕ) (c k : ℕ) : Type 0 where
  pub st : State
  pub reached : Reached s st line rest
  pub held : Holds kept st
  pub left : ℕ
  pub left_is : left + k ≡ c
  pub due : InSection section k left st
  pub sized : Sized section c

-- before the first heading nothing is said and nothing kept
pub holds_nothing : Holds (record {
  table = replicate (row_limit * row_limit) absent;
  rows = replicate (width * row_limit) 0;
  cols = replicate (width * row_limit) 0;
  next = 0;
}) start
unfolding slots
holds_nothing =
    record {
      rows_held = refl;
      cols_held = refl;
      rows_stand = labels_none;
      cols_stand = labels_none;
      table_held = refl;
      next_held = refl;
      few = omega arith;
    }

-- where a heading is due: it does not stand at the front of the rest, or it does
module _ {s : List ℕ} {kept : Kept} {section : Section} {line : ℕ} {rest : List ℕ} (u : BeforeHeading s kept section line rest) where
  pub heading_wrong : ((f : Front) → HeadingIs section rest f → ⊥) → WrongLine s line
  heading_wrong none =
      halt s u.st line rest u.reached
      (λ f. omega (arith, before_last section, ap rank (sym u.section_is ∙ f.last))) (λ l x st' e a. go l x e a)
    where
      go : (l x : List ℕ) {st' : State} → Ended rest l x → After u.st l st' → ⊥
      go l x e (heading c z h f) =
          none (record { value = c; taken = length l + 1 })
          (record {
            line = l;
            is = subst (λ y. Heading (before section) y c l) u.rows_are (subst (λ y. Heading y (length u.st.row_labels) c l) u.section_is h);
            ended = subst (λ y. Ended rest l y) (behind_line e) e;
            inside = omega (arith, line_length e);
          })
      go l x e (row_label m z y f g h) = omega (arith, u.none_left)
      go l x e (col_label m z y f g h) = omega (arith, u.none_left)
      go l x e (order_line m i j v z y p q o r f g) = omega (arith, u.none_left)

  pub heading_passed : (f : Front) → HeadingIs section rest f → BeforeLine s kept section (line + 1) (drop f.taken rest) f.value 0
  heading_passed f h =
      let st = u.st in
      let c = f.value in
      let is : Heading st.section (length st.row_labels) c h.line =
      subst⁻¹ (λ y. Heading y (length st.row_labels) c h.line) u.section_is
      (subst⁻¹ (λ y. Heading (before section) y c h.line) u.rows_are h.is) in
      record {
        st = begun st c;
        reached = pass s st (begun st c) line f.taken rest h.line u.reached h.ended (heading c u.none_left is refl);
        held =
            record {
              rows_held = u.held.rows_held;
              cols_held = u.held.cols_held;
              rows_stand = u.held.rows_stand;
              cols_stand = u.held.cols_stand;
              table_held = u.held.table_held;
              next_held = u.held.next_held;
              few = u.held.few;
            };
        left = c;
        left_is = omega arith;
        due =
            record {
              section_is = ap following u.section_is ∙ follows section;
              left_is = refl;
              rows_are = u.rows_are;
              cols_are = u.cols_are;
            };
        sized = heading_sized section c h.line h.is;
      }

-- where a line of a section is due: what `keep` wants to know; it is wrong, or it is kept
module _ {s : List ℕ} {kept : Kept} {section : Section} {line : ℕ} {rest : List ℕ} {c k : ℕ} (u : BeforeLine s kept section line rest c k)
    (more : k < c) where
  pub line_due : InSection section k (suc (c - (k + 1))) u.st
  line_due =
      let d = u.due in
      record {
        section_is = d.section_is;
        left_is = omega (arith, d.left_is, u.left_is);
        rows_are = d.rows_are;
        cols_are = d.cols_are;
      }

  pub line_wrong : ((l x : List ℕ) (st' : State) → Ended rest l x → After u.st l st' → ⊥) → WrongLine s line
  line_wrong none = halt s u.st line rest u.reached (λ f. omega (arith, f.none_left, u.due.left_is, u.left_is)) none

  pub line_passed : {taken : ℕ} {kept' : Kept} (st' : State) → LineTaken u.st rest taken st' → InSection section (k + 1) (c - (k + 1)) st'
      → Holds kept' st' → BeforeLine s kept' section (line + 1) (drop taken rest) c (k + 1)
  line_passed {taken} st' t i h =
      record {
        st = st';
        reached = pass s u.st st' line taken rest t.line u.reached t.ended t.stands;
        held = h;
        left = c - (k + 1);
        left_is = omega arith;
        due = i;
        sized = u.sized;
      }

-- after the last line of the last section the sheet must end
module _ {s : List ℕ} {kept : Kept} {line : ℕ} {rest : List ℕ} {c : ℕ} {size : Size} (u : BeforeLine s kept (Orders size) line rest c c) where
  final : Final u.st
  final = record { last = u.due.section_is; none_left = omega (arith, u.due.left_is, u.left_is) }

  pub sheet_ends : length rest ≡ 0 → Ends s size.n kept
  sheet_ends z =
      record {
        st = u.st;
        read = u.reached.whole (good (table_of u.st)) (done (drop_of_length-le rest {i = 0} (omega arith)) final refl);
        held = u.held;
        rows_are = u.due.rows_are;
        cols_are = u.due.cols_are;
        few = size.few;
      }

  pub sheet_goes_on : (length rest ≡ 0 → ⊥) → WrongLine s line
  sheet_goes_on some = u.reached.whole (wrong line) (surplus u.st line rest final (λ z. some (ap length z)) (cut rest))

-- the table of a good sheet has room
pub places_few : {s : List ℕ} {n : ℕ} {kept : Kept} → Ends s n kept → n * n ≤ row_limit * row_limit
places_few {s} {n} e = mul-le-mul {n₁ = n} {m₁ = n} {n₂ = row_limit} {m₂ = row_limit} e.few e.few
