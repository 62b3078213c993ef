-- Which line of a sheet is wrong, said of whole sheets. There is one such line at most (`first_once`), and every byte string is a sheet
-- or has one (`sheet_or_wrong`).
use Rattle.std.specs.Prelude.{◌≡◌, List, [], ◌∷◌, ◌++◌, ℕ, ◌+◌, ◌*◌, ◌≤◌, length}
use Rattle.sheet.specs.Text.{ended}
use Rattle.sheet.specs.Sheet.{Labelled, Stands, present_count, ended_lines, sheet_lines, IsSheet}

-- Lines can stand: they begin the sheet of a table within the limits, where K may be written as any count from the number of its orders
-- to N × N. "An order line isn't wrong because too few places remain after it to make up K: then the missing line is."
pub record CanStand (ls : List (List ℕ)) : Type 0 where
  pub table : Labelled
  pub stands : Stands table
  pub count : ℕ
  pub enough : present_count table.entries ≤ count
  pub few : count ≤ length table.row_labels * length table.row_labels
  pub others : List (List ℕ)
  pub begins : sheet_lines count table ≡ ls ++ others

-- "The first line that can't stand after those before it is wrong, and its number (from 1) is reported": the lines before it can stand,
-- and no line that comes next can stand after them. "a missing line, an unended line and a line after the last are wrong in the place where
-- they stand": so it is too where no line comes next, as long as the bytes are no sheet.
pub record FirstWrong (s : List ℕ) (k : ℕ) : Type 0 where
  pub before : List (List ℕ)
  pub rest : List ℕ
  pub parts : s ≡ ended_lines before ++ rest
  pub number : k ≡ length before + 1
  pub stand : CanStand before
  pub next_cannot : (l x : List ℕ) → rest ≡ ended l ++ x → CanStand (before ++ (l ∷ [])) → ⊥
  pub no_sheet : (t : Labelled) → IsSheet t s → ⊥
