-- What the search for the rows from which a row's column can be reached has found. `0 < step k` says that row k is found.
use Rattle.std.specs.Prelude.{◌≡◌, ◌≢◌, Bool, true, false, List, ℕ, ◌+◌, ◌-◌, ◌≤◌, ◌<◌, ℤ, set, swap}
use Rattle.theory.specs.Lists.{nums}
use Rattle.theory.specs.Canon.{Maximum}
use Rattle.theory.specs.Paths.{Leads}
use Rattle.orders.specs.Held.{Long}
use Rattle.ways.specs.declared.raised.Raised.{Raised}
use Rattle.ways.specs.declared.Ways.{Ways}
use Rattle.ways.specs.Parts.{size, order_at, added}

module _ (n : ℕ) (a : ℕ → ℕ → ℤ) (l : ℕ → ℕ) where
  -- E k b says that b tells whether row k is eligible. Column j is the least before `own` in which row i has a maximum and whose marked row
  -- is eligible
  pub record LeastColumn (row_of : ℕ → ℕ) (E : ℕ → Bool → Type 0) (i own j : ℕ) : Type 0 where
    pub before : j < own
    pub maximum : Maximum n a l i j
    pub eligible : E (row_of j) true
    pub none : (x : ℕ) → x < j → Maximum n a l i x → E (row_of x) false

  -- there is none
  pub record NoColumn (row_of : ℕ → ℕ) (E : ℕ → Bool → Type 0) (i own : ℕ) : Type 0 where
    pub none : (x : ℕ) → x < own → Maximum n a l i x → E (row_of x) false

  -- The rows found so far, row i the first of them, stand in the queue in the order of their steps; each but row i is led to by its row
  -- `next`, which was found before it.
  pub record RowsFound (i : ℕ) (column_of next step queue : ℕ → ℕ) (count : ℕ) : Type 0 where
    pub root : step i ≡ 1
    pub row : (p : ℕ) → p < count → queue p < n
    pub late : (p : ℕ) → p < count → i ≤ queue p
    pub numbered : (p : ℕ) → p < count → step (queue p) ≡ p + 1
    pub counted : (k : ℕ) → k < n → 0 < step k → step k ≤ count
    pub queued : (k : ℕ) → k < n → 0 < step k → queue (step k - 1) ≡ k
    pub leads : (k : ℕ) → k < n → 0 < step k → k ≢ i → Leads n (Maximum n a l) column_of (next k) k
    pub found : (k : ℕ) → k < n → 0 < step k → k ≢ i → 0 < step (next k)
    pub nearer : (k : ℕ) → k < n → 0 < step k → k ≢ i → step (next k) < step k

  -- the rows after i that have a maximum in the column are found
  abbrev pub AllFound : (i column : ℕ) (step : ℕ → ℕ) → Type 0
  AllFound i column step = (x : ℕ) → i < x → x < n → Maximum n a l x column → 0 < step x

-- From place `count` to place n − i the queue holds rows after i that are not found, no two the same: all of them, if before place
-- `count` it holds the rows found.
pub record RowsLeft (n i : ℕ) (step queue : ℕ → ℕ) (count : ℕ) : Type 0 where
  pub few : i + count ≤ n
  pub row : (p : ℕ) → count ≤ p → i + p < n → queue p < n
  pub later : (p : ℕ) → count ≤ p → i + p < n → i < queue p
  pub none : (p : ℕ) → count ≤ p → i + p < n → step (queue p) ≡ 0
  pub apart : (p q : ℕ) → count ≤ p → i + p < n → count ≤ q → i + q < n → queue p ≡ queue q → p ≡ q

-- what was found stays as it was
pub record MoreFound (n : ℕ) (step queue : ℕ → ℕ) (count : ℕ) (step' queue' : ℕ → ℕ) (count' : ℕ) : Type 0 where
  pub more : count ≤ count'
  pub same : (p : ℕ) → p < count → queue' p ≡ queue p
  pub kept : (k : ℕ) → k < n → 0 < step k → 0 < step' k

-- ---- the same of the lists of the code
-- what a search from row i is given besides the table: the columns of the rows
pub record Columns (g : Raised) (i : ℕ) (column_of : List ℕ) : Type 0 where
  pub row : i < size g
  pub column : (k : ℕ) → k < size g → nums column_of k < size g

-- the arrays have a place for each row of the largest table
pub record LongWays (w : Ways) : Type 0 where
  pub next : Long w.next
  pub step : Long w.step
  pub queue : Long w.queue

-- no row is found yet
pub record Unsearched (n : ℕ) (w : Ways) : Type 0 where
  pub long : LongWays w
  pub none : (k : ℕ) → k < n → nums w.step k ≡ 0

-- the rows from i on, one after the other
pub record RowsFrom (n i : ℕ) (queue : List ℕ) : Type 0 where
  pub long : Long queue
  pub row : (p : ℕ) → i + p < n → nums queue p ≡ i + p

-- the row at this place of the queue has joined, with a step to row m, and has changed places with the first of those behind
pub record Joined (w : Ways) (place m : ℕ) (r : Ways) : Type 0 where
  pub next : r.next ≡ set w.next (nums w.queue place) m
  pub step : r.step ≡ set w.step (nums w.queue place) (w.count + 1)
  pub queue : r.queue ≡ swap w.queue place w.count
  pub count : r.count ≡ w.count + 1

pub record RowsFoundIn (g : Raised) (i : ℕ) (column_of : List ℕ) (w : Ways) : Type 0 where
  pub long : LongWays w
  pub ways : RowsFound (size g) (order_at g) (added g) i (nums column_of) (nums w.next) (nums w.step) (nums w.queue) w.count
  pub left : RowsLeft (size g) i (nums w.step) (nums w.queue) w.count

-- more rows are found, and all rows after i that have a maximum in the column of row m
pub record Scanned (g : Raised) (i : ℕ) (column_of : List ℕ) (m : ℕ) (w r : Ways) : Type 0 where
  pub ways : RowsFoundIn g i column_of r
  pub grown : MoreFound (size g) (nums w.step) (nums w.queue) w.count (nums r.step) (nums r.queue) r.count
  pub all : AllFound (size g) (order_at g) (added g) i (nums column_of m) (nums r.step)

-- rows are found, in some order; and if the row wanted is not among them, then every row after i to which a row found leads is found
pub record Searched (g : Raised) (i : ℕ) (column_of : List ℕ) (wanted : ℕ) (r : Ways) : Type 0 where
  pub found : RowsFoundIn g i column_of r
  pub all : nums r.step wanted ≡ 0
      → (m k : ℕ) → i < k → 0 < nums r.step m → Leads (size g) (Maximum (size g) (order_at g) (added g)) (nums column_of) m k
      → 0 < nums r.step k
