-- What is lent or held as a list, as a function of the row or the column. Past the list's end it is 0 (unmarked); no promise depends
-- on that, since lengths are tested first.
use Rattle.std.specs.Prelude.{◌≡◌, List, Bool, false, ℕ, ◌-◌, ◌≤◌, ◌<◌, ℤ, pos, get_or, length}

-- additions, columns, rows, counts
abbrev pub nums : List ℕ → ℕ → ℕ
nums l i = get_or l i 0

-- heads
abbrev pub ints : List ℤ → ℕ → ℤ
ints l j = get_or l j (pos 0)

-- stars are lent with their columns "numbered from 1": the column of row i, counted from 0
abbrev pub columns : List ℕ → ℕ → ℕ
columns s i = get_or s i 0 - 1

-- a star list with no "number outside 1 to N, or one twice"
pub record StarList (n : ℕ) (s : List ℕ) : Type 0 where
  pub long : length s ≡ n
  pub from_one : (i : ℕ) → i < n → 1 ≤ nums s i
  pub to_size : (i : ℕ) → i < n → nums s i ≤ n
  pub none_twice : (i k : ℕ) → i < n → k < n → nums s i ≡ nums s k → i ≡ k

-- marks
abbrev pub flags : List Bool → ℕ → Bool
flags l i = get_or l i false
