-- What the heads of a raised table are.
use Rattle.std.specs.Prelude.{◌≡◌, List, ℕ, ◌<◌, ℤ, ◌≤ℤ◌}
use Rattle.theory.specs.Lists.{nums, ints}
use Rattle.theory.specs.Table.{Present, entry}
use Rattle.theory.specs.Canon.{Maximum, raised}

-- h holds the heads of the table t of n rows with the additions l, in every column with an order: no raised order exceeds its column's
-- head, and each column maximum is its column's head
pub record HeadsStand (t : List ℤ) (n : ℕ) (l : List ℕ) (h : List ℤ) : Type 0 where
  pub unexceeded : (i j : ℕ) → i < n → j < n → Present (entry t n i j) → raised n (entry t n) (nums l) i j ≤ℤ ints h j
  pub reached : (i j : ℕ) → i < n → j < n → Maximum n (entry t n) (nums l) i j → raised n (entry t n) (nums l) i j ≡ ints h j
