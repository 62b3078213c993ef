-- The solver between the tests and the handing out, by value.
use Rattle.std.specs.Prelude.{List, ℕ, ◌≤◌, ◌<◌, ℤ, Option, MatchOption}
use Rattle.theory.specs.Lists.{nums, ints, columns}
use Rattle.theory.specs.Table.{entry}
use Rattle.theory.specs.Canon.{NoTransversal, Solution}
use Rattle.outcome.specs.declared.WholeAnswer.{WholeAnswer}

-- w is the whole answer of the table t of n rows from the start, its stars numbered from 1
pub record AnswerFrom (t : List ℤ) (n : ℕ) (start : List ℕ) (w : WholeAnswer) : Type 0 where
  pub solution : Solution n (entry t n) (nums start) (nums w.additions) (columns w.stars) (ints w.heads) w.sum
  pub from_one : (i : ℕ) → i < n → 1 ≤ nums w.stars i

-- r has it; or it is known that no complete transversal exists
abbrev pub SolvedFrom : List ℤ → ℕ → List ℕ → Option WholeAnswer → Type 0
SolvedFrom t n start r = MatchOption r (NoTransversal n (entry t n)) (AnswerFrom t n start)
