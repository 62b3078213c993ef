-- What `grow` answers.
use Rattle.std.specs.Prelude.{List, ℕ, ℤ, Option, MatchOption}
use Rattle.theory.specs.Lists.{nums}
use Rattle.theory.specs.Table.{entry}
use Rattle.theory.specs.Canon.{NoTransversal}
use Rattle.orders.specs.Places.{Marks}
use Rattle.orders.specs.Held.{LeastBy}
use Rattle.growth.specs.declared.Grown.{Grown}

-- g is the least canon from the start, by a transversal that is held both ways
pub record LeastGrown (t : List ℤ) (n : ℕ) (start : List ℕ) (g : Grown) : Type 0 where
  pub least : LeastBy t n (nums start) g.additions g.marks.columns
  pub marks : Marks n (nums g.marks.rows) (nums g.marks.columns)

-- that is what is grown; or it is known that there is no complete transversal, and so no canon
abbrev pub GrownFrom : List ℤ → ℕ → List ℕ → Option Grown → Type 0
GrownFrom t n start r = MatchOption r (NoTransversal n (entry t n)) (LeastGrown t n start)
