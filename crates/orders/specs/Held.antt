-- What one part of a route hands to the next, in the arrays of the code: a start, and a canon with a transversal of its column maxima.
use Rattle.std.specs.Prelude.{◌≡◌, List, ℕ, ◌≤◌, ◌<◌, ℤ, length}
use Rattle.theory.specs.Limits.{row_limit, order_limit, addition_limit}
use Rattle.theory.specs.Lists.{nums}
use Rattle.theory.specs.Table.{entry, Entries}
use Rattle.theory.specs.Canon.{OfMaxima, LeastFrom}
use Rattle.orders.specs.Places.{Square, UnderCeiling}

-- the list of an array, which has a place for each row of the largest table
abbrev pub Long : {X : Type 0} → List X → Type 0
Long l = length l ≡ row_limit

-- what a route begins from: a tested table of n rows, and a start within document 01's limit of additions handed in
pub record Startable (t : List ℤ) (n : ℕ) (start : List ℕ) : Type 0 where
  pub square : Square t n
  pub entries : Entries order_limit t
  pub handed_in : (i : ℕ) → i < n → nums start i ≤ addition_limit

-- additions that are a canon by these columns: they are those of a complete transversal of column maxima; and no addition is above the
-- ceiling
pub record CanonBy (t : List ℤ) (n : ℕ) (l column_of : List ℕ) : Type 0 where
  pub of_maxima : OfMaxima n (entry t n) (nums l) (nums column_of)
  pub under_ceiling : UnderCeiling n l

-- the least canon from a start, by these columns
pub record LeastBy (t : List ℤ) (n : ℕ) (start : ℕ → ℕ) (l column_of : List ℕ) : Type 0 where
  pub least : LeastFrom n (entry t n) start (nums l)
  pub canon : CanonBy t n l column_of
