-- What the calls within this crate promise each other. The starred order of row i is in column σ i.
use Rattle.std.specs.Prelude.{◌≡◌, Bool, true, false, List, ℕ, ◌+◌, ◌*◌, ◌≤◌, ◌<◌, ℤ, ◌≤ℤ◌}
use Rattle.theory.specs.Lists.{nums}
use Rattle.theory.specs.Table.{Present, entry, Entries}
use Rattle.theory.specs.Canon.{raised, OfMaxima, AtMost, Transversal}
use Rattle.theory.specs.Limits.{order_limit}
use Rattle.orders.specs.Places.{ceiling, UnderCeiling}

-- the first k rows of a round from the additions l, of a table a whose orders are within the limit: rows are raised and never
-- lowered; each of the k is raised to what the others had in its column before the round; no row passes a canon's addition; k rows
-- raise the largest addition by at most 2k limits. `ended` tells whether nothing was changed.
pub record Round (limit n : ℕ) (a : ℕ → ℕ → ℤ) (σ l : ℕ → ℕ) (k : ℕ) (ended : Bool) (next : ℕ → ℕ) : Type 0 where
  pub grows : AtMost n l next
  pub reaches : (i x : ℕ) → i < k → x < n → Present (a x (σ i)) → raised n a l x (σ i) ≤ℤ raised n a next i (σ i)
  pub below : (m : ℕ → ℕ) → OfMaxima n a m σ → AtMost n l m → AtMost n next m
  pub near : (b : ℕ) → ((i : ℕ) → i < n → l i ≤ b) → (i : ℕ) → i < n → next i ≤ b + k * (2 * limit)
  pub still : ended ≡ true → (i : ℕ) → i < n → next i ≡ l i
  pub moved : ended ≡ false → (i : ℕ) × (i < n) × (l i < next i)

-- one round from the additions l stays under the ceiling
abbrev pub Ample : ℕ → ℕ → List ℕ → Type 0
Ample limit n l = (i : ℕ) → i < n → nums l i + n * (2 * limit) ≤ ceiling

-- what a row's wanted addition is reckoned from: tested entries, additions under the ceiling, and a present place
pub record Wanting (t : List ℤ) (n : ℕ) (l : List ℕ) (column i : ℕ) : Type 0 where
  pub entries : Entries order_limit t
  pub under_ceiling : UnderCeiling n l
  pub inside : column < n
  pub row : i < n
  pub present : Present (entry t n i column)

-- what a round begins with: tested entries, a transversal, and additions that leave a round under the ceiling
pub record Rounding (t : List ℤ) (n : ℕ) (column_of l : List ℕ) : Type 0 where
  pub entries : Entries order_limit t
  pub transversal : Transversal n (entry t n) (nums column_of)
  pub ample : Ample order_limit n l
