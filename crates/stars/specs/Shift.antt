-- What a shift of the marks does.
use Rattle.std.specs.Prelude.{◌≡◌, List, ℕ, ◌≤◌, ◌<◌, set, swap}
use Rattle.theory.specs.Limits.{row_limit}
use Rattle.theory.specs.Lists.{nums}
use Rattle.theory.specs.Canon.{Maximum, OfMaxima}
use Rattle.orders.specs.Places.{Marks}
use Rattle.orders.specs.Held.{Long}
use Rattle.orders.specs.declared.marks.Marked.{Marked}
use Rattle.ways.specs.declared.raised.Raised.{Raised}
use Rattle.ways.specs.Parts.{size, order_at, added}

-- marks of column maxima, whose arrays have a place for each row of the largest table
pub record MaximaIn (g : Raised) (w : Marked) : Type 0 where
  pub long_rows : Long w.rows
  pub long_columns : Long w.columns
  pub marks : Marks (size g) (nums w.rows) (nums w.columns)
  pub of_maxima : OfMaxima (size g) (order_at g) (added g) (nums w.columns)

-- rows k and m and their columns are within the arrays
pub record Swappable (columns : List ℕ) (k m : ℕ) : Type 0 where
  pub row : k < row_limit
  pub other : m < row_limit
  pub column : nums columns k < row_limit
  pub other_column : nums columns m < row_limit

-- rows k and m have exchanged their columns
pub record Swapped (w : Marked) (k m : ℕ) (r : Marked) : Type 0 where
  pub columns : r.columns ≡ swap w.columns k m
  pub rows : r.rows ≡ set (set w.rows (nums r.columns k) k) (nums r.columns m) m

-- no complete transversal of column maxima that agrees with σ before row i has an earlier column there
abbrev pub FirstAt : Raised → (ℕ → ℕ) → ℕ → Type 0
FirstAt g σ i = (τ : ℕ → ℕ) → OfMaxima (size g) (order_at g) (added g) τ → ((x : ℕ) → x < i → τ x ≡ σ x) → σ i ≤ τ i

-- row i has come to its first column, and the rows before it have kept theirs
pub record Starred (g : Raised) (w : Marked) (i : ℕ) (r : Marked) : Type 0 where
  pub maxima : MaximaIn g r
  pub before : (x : ℕ) → x < i → nums r.columns x ≡ nums w.columns x
  pub first : FirstAt g (nums r.columns) i

-- row i has a maximum in column c, and no column before c could be left to row i: where it has a maximum there, an earlier row has the
-- column
pub record FirstCandidate (g : Raised) (w : Marked) (i c : ℕ) : Type 0 where
  pub inside : c < size g
  pub maximum : Maximum (size g) (order_at g) (added g) i c
  pub none : (j : ℕ) → j < c → Maximum (size g) (order_at g) (added g) i j → i ≤ nums w.rows j → ⊥
