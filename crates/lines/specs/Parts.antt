-- What the functions of this crate tell each other and the reader. Where an answer may be none, that says that there is no such thing.
use Rattle.std.specs.Prelude.{◌≡◌, Bool, List, [], ◌∷◌, ◌++◌, ℕ, suc, ◌+◌, ◌-◌, ◌*◌, ◌≤◌, ◌<◌, length, drop, replicate}
use Rattle.std.specs.Prelude.{Option, MatchBool, MatchOption}
use Rattle.theory.specs.Limits.{row_limit, order_limit}
use Rattle.theory.specs.Table.{absent, Order}
use Rattle.sheet.specs.Labels.{width, Form, New, Labels, slots}
use Rattle.sheet.specs.Sheet.{order_text}
use Rattle.sheet.specs.Reading as sheets
use Rattle.sheet.specs.Reading.{Ended, opening, of_rows, of_cols, of_orders, State, Heading, After}
use Rattle.fields.specs.declared.Front.{Front}
use Rattle.lines.specs.declared.Placed.{Placed}
use Rattle.lines.specs.declared.Section.{Section}
use Rattle.lines.specs.declared.Section.TheVariants.{Rows, Cols, Orders}
use Rattle.lines.specs.declared.Kept.{Kept}

-- ---- order lines
-- the line l is the order o
pub record OrderIs (n : ℕ) (l : List ℕ) (o : Placed) : Type 0 where
  pub row : o.row < n
  pub col : o.col < n
  pub order_stands : Order order_limit o.order
  pub is : l ≡ order_text o.row o.col o.order

-- ---- sections
-- the section that is meant, and the one before it
abbrev pub meant : Section → sheets.Section
meant Rows = of_rows
meant (Cols size) = of_cols
meant (Orders size) = of_orders

abbrev pub before : Section → sheets.Section
before Rows = opening
before (Cols size) = of_rows
before (Orders size) = of_cols

-- so many labels of rows, and of columns, stand before line k of a section, which counts from 0
abbrev pub row_count : Section → ℕ → ℕ
row_count Rows k = k
row_count (Cols size) k = size.n
row_count (Orders size) k = size.n

abbrev pub col_count : Section → ℕ → ℕ
col_count Rows k = 0
col_count (Cols size) k = k
col_count (Orders size) k = size.n

-- the line l is the section's heading, which has the count c
abbrev pub HeadingCount : Section → List ℕ → ℕ → Type 0
HeadingCount section l c = Heading (before section) (row_count section 0) c l

-- s begins with a section's heading, which has a count and takes so many bytes, its line feed among them
pub record HeadingIs (section : Section) (s : List ℕ) (f : Front) : Type 0 where
  pub line : List ℕ
  pub is : HeadingCount section line f.value
  pub ended : Ended s line (drop f.taken s)
  pub inside : f.taken ≤ length s

-- ---- what is kept
-- a label buffer of the reader holds these labels, and zero bytes after them
abbrev pub Holding : List ℕ → List (List ℕ) → Type 0
Holding b ls = b ≡ slots ls ++ replicate (width * row_limit - width * length ls) 0

-- after the labels ls the line l was fit to be a label, and the buffer b holds it too; or it was not
abbrev pub LabelKept : List (List ℕ) → List ℕ → Bool → List ℕ → Type 0
LabelKept ls l fits b = MatchBool fits (Form l × New ls l × Holding b (ls ++ (l ∷ []))) (Form l → New ls l → ⊥)

-- what is kept is what the lines so far said
pub record Holds (kept : Kept) (st : State) : Type 0 where
  pub rows_held : Holding kept.rows st.row_labels
  pub cols_held : Holding kept.cols st.col_labels
  pub rows_stand : Labels st.row_labels
  pub cols_stand : Labels st.col_labels
  pub table_held : kept.table ≡ st.entries ++ replicate (row_limit * row_limit - length st.entries) absent
  pub next_held : kept.next ≡ length st.entries
  pub few : length st.entries ≤ row_limit * row_limit

-- ---- the lines of a section
-- the lines of st end before line k of a section, and m lines are due from there
pub record InSection (section : Section) (k m : ℕ) (st : State) : Type 0 where
  pub section_is : st.section ≡ meant section
  pub left_is : st.left ≡ m
  pub rows_are : length st.row_labels ≡ row_count section k
  pub cols_are : length st.col_labels ≡ col_count section k

-- a label buffer has a place for line k of a section of labels
abbrev pub Room : Section → ℕ → Type 0
Room Rows k = k < row_limit
Room (Cols size) k = k < row_limit
Room (Orders size) k = Unit

-- the line l can stand after those of st, as the last before line k of a section, and what it says is kept; or it cannot
abbrev pub LineKept : Section → ℕ → ℕ → State → List ℕ → Bool → Kept → Type 0
LineKept section k m st l fits kept =
    MatchBool fits ((st' : State) × After st l st' × InSection section k m st' × Holds kept st') ((st' : State) → After st l st' → ⊥)

-- the same of the line at the front of s, which takes so many bytes, its line feed among them
pub record LineTaken (st : State) (s : List ℕ) (taken : ℕ) (st' : State) : Type 0 where
  pub line : List ℕ
  pub stands : After st line st'
  pub ended : Ended s line (drop taken s)
  pub inside : taken ≤ length s

abbrev pub FrontKept : Section → ℕ → ℕ → State → List ℕ → Option ℕ → Kept → Type 0
FrontKept section k m st s r kept =
    MatchOption r ((l x : List ℕ) (st' : State) → Ended s l x → After st l st' → ⊥)
    (λ taken. (st' : State) × LineTaken st s taken st' × InSection section k m st' × Holds kept st')

-- a line is kept as line k of a section, whatever the lines before it said
abbrev pub Keeps : Section → ℕ → Kept → List ℕ → Bool → Kept → Type 0
Keeps section k kept l fits kept' =
    (st : State) (m : ℕ) → Holds kept st → InSection section k (suc m) st → LineKept section (k + 1) m st l fits kept'

abbrev pub KeepsFront : Section → ℕ → Kept → List ℕ → Option ℕ → Kept → Type 0
KeepsFront section k kept s r kept' =
    (st : State) (m : ℕ) → Holds kept st → InSection section k (suc m) st → FrontKept section (k + 1) m st s r kept'
