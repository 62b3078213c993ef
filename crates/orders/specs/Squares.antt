-- The form of a table.
use Rattle.std.specs.Prelude.{◌≡◌, List, ℕ, ◌*◌, ◌≤◌, ℤ, length}
use Rattle.theory.specs.Limits.{row_limit}

-- a table of n rows and columns, of a size that the code takes
pub record Square (t : List ℤ) (n : ℕ) : Type 0 where
  pub small : n ≤ row_limit
  pub square : length t ≡ n * n
