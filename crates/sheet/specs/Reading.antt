-- The reading of a sheet, line by line, as the reader goes. No promise is stated by it: that it comes to the same as `IsSheet` and
-- `FirstWrong`, which speak of whole sheets, is proved (`read_is_written`, `written_is_read`, `wrong_is_first`, `first_is_wrong`).
use Rattle.std.specs.Prelude.{◌≡◌, ◌≢◌, List, [], ◌∷◌, ◌++◌, ℕ, suc, ◌+◌, ◌-◌, ◌*◌, ◌≤◌, ◌<◌, ℤ, length, replicate}
use Rattle.theory.specs.Limits.{row_limit, order_limit}
use Rattle.theory.specs.Table.{absent, Order}
use Rattle.sheet.specs.Text.{feed, text, Each, rows_head, cols_head, orders_head}
use Rattle.sheet.specs.Labels.{Form, New}
use Rattle.sheet.specs.Sheet.{Labelled, order_text}

-- the bytes s begin with the line l, ended by its line feed
pub record Ended (s l rest : List ℕ) : Type 0 where
  pub parts : s ≡ l ++ feed ∷ rest
  pub whole : Each (λ b. b ≢ feed) l

-- the sections of a sheet, and before them its opening
pub data Section : Type 0 where
  opening : Section
  of_rows : Section
  of_cols : Section
  of_orders : Section

-- "Sections in a fixed order": the one that comes after; none comes after the orders
abbrev pub following : Section → Section
following opening = of_rows
following of_rows = of_cols
following of_cols = of_orders
following of_orders = of_orders

-- what the lines so far said: the section in which they end, the lines still due in it, the labels, and the entries up to and with
-- the last order
pub record State : Type 0 where
  pub section : Section
  pub left : ℕ
  pub row_labels : List (List ℕ)
  pub col_labels : List (List ℕ)
  pub entries : List ℤ

abbrev pub start : State
start = record { section = opening; left = 0; row_labels = []; col_labels = []; entries = [] }

-- the line l is the heading with count c of the section that comes after: "`rows N`", "`cols N`, the same N", "`orders K`";
-- "N is 1 to 32, K is 0 to N × N"
abbrev pub Heading : Section → ℕ → ℕ → List ℕ → Type 0
Heading opening n c l = (1 ≤ c) × (c ≤ row_limit) × (l ≡ rows_head ++ text c)
Heading of_rows n c l = (c ≡ n) × (l ≡ cols_head ++ text c)
Heading of_cols n c l = (0 ≤ c) × (c ≤ n * n) × (l ≡ orders_head ++ text c)
Heading of_orders n c l = ⊥

-- what is said after one more line: a heading with the count c, a label, an order with m lines still due. Places passed over by
-- an order are absent.
abbrev pub begun : State → ℕ → State
begun st c =
    record {
      section = following st.section;
      left = c;
      row_labels = st.row_labels;
      col_labels = st.col_labels;
      entries = st.entries;
    }

abbrev pub with_row : State → ℕ → List ℕ → State
with_row st m l =
    record {
      section = of_rows;
      left = m;
      row_labels = st.row_labels ++ (l ∷ []);
      col_labels = st.col_labels;
      entries = st.entries;
    }

abbrev pub with_col : State → ℕ → List ℕ → State
with_col st m l =
    record {
      section = of_cols;
      left = m;
      row_labels = st.row_labels;
      col_labels = st.col_labels ++ (l ∷ []);
      entries = st.entries;
    }

abbrev pub with_order : State → ℕ → ℕ → ℤ → State
with_order st m p v =
    record {
      section = of_orders;
      left = m;
      row_labels = st.row_labels;
      col_labels = st.col_labels;
      entries = st.entries ++ (replicate (p - length st.entries) absent ++ (v ∷ []));
    }

-- the line l can stand after the lines of st, and st' is what is said then
pub data After (st : State) (l : List ℕ) (st' : State) : Type 0 where
  -- a section's heading, when no line of the section before is due
  heading : (c : ℕ) → st.left ≡ 0 → Heading st.section (length st.row_labels) c l → st' ≡ begun st c → After st l st'
  -- a label of a row, and of a column
  row_label : (m : ℕ) → st.section ≡ of_rows → st.left ≡ suc m → Form l → New st.row_labels l → st' ≡ with_row st m l → After st l st'
  col_label : (m : ℕ) → st.section ≡ of_cols → st.left ≡ suc m → Form l → New st.col_labels l → st' ≡ with_col st m l → After st l st'
  -- an order: "i and j are 1 to N, v is −100 to 100", at a place that no line so far has reached
  order_line : (m i j : ℕ) (v : ℤ) → st.section ≡ of_orders → st.left ≡ suc m → i < length st.row_labels → j < length st.row_labels
      → Order order_limit v → length st.entries ≤ i * length st.row_labels + j → l ≡ order_text i j v
      → st' ≡ with_order st m (i * length st.row_labels + j) v → After st l st'

-- no line is due any more
pub record Final (st : State) : Type 0 where
  pub last : st.section ≡ of_orders
  pub none_left : st.left ≡ 0

-- the labelled table that the lines of st say; places after the last order are absent
abbrev pub table_of : State → Labelled
table_of st =
    record {
      row_labels = st.row_labels;
      col_labels = st.col_labels;
      entries = st.entries ++ replicate (length st.row_labels * length st.row_labels - length st.entries) absent;
    }

-- what a sheet is: a labelled table, or wrong in a line
pub data Outcome : Type 0 where
  good : Labelled → Outcome
  wrong : ℕ → Outcome

-- the bytes s, whose first line has the number k and stands after the lines of st, give the outcome o
pub data Reads : State → ℕ → List ℕ → Outcome → Type 0 where
  -- the sheet ends where it may
  done : {st : State} {k : ℕ} {s : List ℕ} {o : Outcome} → s ≡ [] → Final st → o ≡ good (table_of st) → Reads st k s o
  -- "a missing line, an unended line"
  short : {st : State} {k : ℕ} {s : List ℕ} {o : Outcome} → Each (λ b. b ≢ feed) s → (s ≡ [] → Final st → ⊥) → o ≡ wrong k → Reads st k s o
  -- "The first line that can't stand after those before it is wrong", "and a line after the last"
  unfit : {st : State} {k : ℕ} {s : List ℕ} {o : Outcome} (l rest : List ℕ) → Ended s l rest → ((st' : State) → After st l st' → ⊥) → o ≡ wrong k
      → Reads st k s o
  -- a line that can stand
  next : {st : State} {k : ℕ} {s : List ℕ} {o : Outcome} (l rest : List ℕ) (st' : State) → Ended s l rest → After st l st' → Reads st' (suc k) rest o
      → Reads st k s o

-- the line with the number k is reported
abbrev pub WrongLine : List ℕ → ℕ → Type 0
WrongLine s k = Reads start 1 s (wrong k)
