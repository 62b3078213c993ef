-- Reading one place of a table that was tested, and a column's head.
use Rattle.std.specs.Prelude.{◌≡◌, ◌⊎◌, List, ℕ, ◌+◌, ◌≤◌, ◌<◌, ℤ, pos, ◌+ℤ◌, get_or, ◌≤ℤ◌, ◌<ℤ◌}
pub use Rattle.orders.specs.Squares.{Square}
use Rattle.theory.specs.Lists.{nums}
use Rattle.theory.specs.Table.{Present, entry}
use Rattle.theory.specs.Canon.{ColumnHead}
use Rattle.orders.specs.declared.table.Top.{Top}

-- the ceiling, which no addition passes while the code works: under it a raised order and a difference of two fit 32 bits
abbrev pub ceiling : ℕ
ceiling = 100000000

-- no addition of the first n rows passes the ceiling
abbrev pub UnderCeiling : ℕ → List ℕ → Type 0
UnderCeiling n l = (i : ℕ) → i < n → nums l i ≤ ceiling

-- what is told of a column with no order
abbrev pub no_order : Top
no_order = record { head = pos 0; row = 0; count = 0 }

-- r has head, lowest row and count of column j of the table t of n rows, with the additions l
abbrev pub TopOf : List ℤ → ℕ → List ℕ → ℕ → Top → Type 0
TopOf t n l j r = ColumnHead n (entry t n) (nums l) j r.head r.row r.count

-- r has them of each of the n columns, one after the other
abbrev pub TopsOf : List ℤ → ℕ → List ℕ → List Top → Type 0
TopsOf t n l r = (j : ℕ) → j < n → TopOf t n l j (get_or r j no_order)

-- r is the larger of a height and the order v raised by l, where v is present
pub record Higher (v : ℤ) (l : ℕ) (height r : ℤ) : Type 0 where
  pub this : Present v → (v +ℤ pos l) ≤ℤ r
  pub other : height ≤ℤ r
  pub one : (r ≡ height) ⊎ (Present v × (r ≡ v +ℤ pos l))

-- r is the row, or row i where the height grows
pub record Lowest (row : ℕ) (height next : ℤ) (i r : ℕ) : Type 0 where
  pub stays : next ≤ℤ height → r ≡ row
  pub new : height <ℤ next → r ≡ i

-- r is the count with the order v taken in, raised by l: the same where v is absent or below the height, one more where it reaches it, and
-- 1 where it is above
pub record Counted (v : ℤ) (l : ℕ) (height : ℤ) (count r : ℕ) : Type 0 where
  pub passed : (Present v → (v +ℤ pos l) <ℤ height) → r ≡ count
  pub tied : Present v → v +ℤ pos l ≡ height → r ≡ count + 1
  pub alone : Present v → height <ℤ (v +ℤ pos l) → r ≡ 1

-- row-of-column and column-of-row marks of a complete transversal: each undoes the other
pub record Marks (n : ℕ) (row_of column_of : ℕ → ℕ) : Type 0 where
  pub column : (i : ℕ) → i < n → column_of i < n
  pub row : (j : ℕ) → j < n → row_of j < n
  pub back : (i : ℕ) → i < n → row_of (column_of i) ≡ i
  pub forth : (j : ℕ) → j < n → column_of (row_of j) ≡ j
