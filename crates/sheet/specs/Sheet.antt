-- A table with labels, and its one sheet.
use Rattle.std.specs.Prelude.{◌≡◌, Bool, false, cond, List, [], ◌∷◌, ◌++◌, ℕ, suc, ◌+◌, ◌*◌, ◌/◌, ◌%◌, ◌≤◌, ◌<◌, eqb, ℤ, pos, negsuc, length}
use Rattle.theory.specs.Limits.{row_limit, order_limit, sheet_limit}
use Rattle.theory.specs.Table.{absent, Entries}
use Rattle.sheet.specs.Text.{blank, text, signed, ended, rows_head, cols_head, orders_head}
use Rattle.sheet.specs.Labels.{Labels}

-- labels of the rows and of the columns, and the entries row by row
pub record Labelled : Type 0 where
  pub row_labels : List (List ℕ)
  pub col_labels : List (List ℕ)
  pub entries : List ℤ

-- a labelled table within document 01's limits
pub record Stands (t : Labelled) : Type 0 where
  pub some : 1 ≤ length t.row_labels
  pub few : length t.row_labels ≤ row_limit
  pub same : length t.col_labels ≡ length t.row_labels
  pub square : length t.entries ≡ length t.row_labels * length t.row_labels
  pub rows_stand : Labels t.row_labels
  pub cols_stand : Labels t.col_labels
  pub entries_stand : Entries order_limit t.entries

-- "every line ended by one line feed": the bytes of lines
unfoldable pub ended_lines : List (List ℕ) → List ℕ
ended_lines [] = []
ended_lines (l ∷ ls) = ended l ++ ended_lines ls

-- are two entries the same?
abbrev pub same : ℤ → ℤ → Bool
same (pos m) (pos n) = eqb m n
same (pos m) (negsuc n) = false
same (negsuc m) (pos n) = false
same (negsuc m) (negsuc n) = eqb m n

-- is an entry absent?
abbrev pub is_absent : ℤ → Bool
is_absent v = same v absent

-- how many places of a table are present
unfoldable pub present_count : List ℤ → ℕ
present_count [] = 0
present_count (v ∷ e) = cond (is_absent v) (present_count e) (suc (present_count e))

-- "`i j v`", "one blank between fields": the order v in row i and column j, which count from 0 here and from 1 in the sheet
abbrev pub order_text : ℕ → ℕ → ℤ → List ℕ
order_text i j v = text (i + 1) ++ blank ∷ (text (j + 1) ++ blank ∷ signed v)

-- "K lines `i j v`, one for each present place, row before column, strictly rising": those of the entries from place p on
unfoldable pub order_lines : ℕ → ℕ → List ℤ → List (List ℕ)
order_lines n p [] = []
order_lines n p (v ∷ e) = cond (is_absent v) (order_lines n (suc p) e) (order_text (p / n) (p % n) v ∷ order_lines n (suc p) e)

-- a section, "each after its count": the lines ls after the heading with the count c
abbrev pub headed : List ℕ → ℕ → List (List ℕ) → List (List ℕ)
headed head c ls = (head ++ text c) ∷ ls

-- the bytes of a section whose count is that of its lines
abbrev pub counted_lines : List ℕ → List (List ℕ) → List ℕ
counted_lines head ls = ended (head ++ text (length ls)) ++ ended_lines ls

-- "Sections in a fixed order": "`rows N`, then N labels", "`cols N`, the same N, then N labels", "`orders K`, then K lines"; the lines of
-- a table's sheet, with k written for K
abbrev pub sheet_lines : ℕ → Labelled → List (List ℕ)
sheet_lines k t =
    headed rows_head (length t.row_labels) t.row_labels
    ++ (headed cols_head (length t.col_labels) t.col_labels ++ headed orders_head k (order_lines (length t.row_labels) 0 t.entries))

-- "So one table with labels has one sheet."
abbrev pub sheet_of : Labelled → List ℕ
sheet_of t = ended_lines (sheet_lines (present_count t.entries) t)

-- the bytes s are the sheet of the labelled table t, which is within the limits
pub record IsSheet (t : Labelled) (s : List ℕ) : Type 0 where
  pub stands : Stands t
  pub is : s ≡ sheet_of t

-- 9: "a sheet is longer than 12,288 bytes"
abbrev pub TooLong : List ℕ → Type 0
TooLong s = sheet_limit < length s
