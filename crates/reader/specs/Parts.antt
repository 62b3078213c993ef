-- What the functions inside the reader tell each other.
use Rattle.std.specs.Prelude.{◌≡◌, List, ℕ, ◌≤◌, length, Result, MatchResult}
use Rattle.theory.specs.Limits.{row_limit}
use Rattle.orders.specs.declared.Refusal.{Refusal}
use Rattle.orders.specs.declared.Refusal.TheVariants.{Line}
use Rattle.sheet.specs.Reading.{State, start, table_of, good, Reads, WrongLine}
use Rattle.lines.specs.declared.Kept.{Kept}
use Rattle.lines.specs.Parts.{Holds}

-- ---- the walk's end
-- the sheet is good: N, and what its lines said is kept
pub record Ends (s : List ℕ) (n : ℕ) (kept : Kept) : Type 0 where
  pub st : State
  pub read : Reads start 1 s (good (table_of st))
  pub held : Holds kept st
  pub rows_are : length st.row_labels ≡ n
  pub cols_are : length st.col_labels ≡ n
  pub few : n ≤ row_limit

-- N of a good sheet, or the wrong line
abbrev pub WalkTells : List ℕ → Result ℕ Refusal → Kept → Type 0
WalkTells s r kept = MatchResult r (λ n. Ends s n kept) (λ e. (k : ℕ) × (e ≡ Line k) × WrongLine s k)
