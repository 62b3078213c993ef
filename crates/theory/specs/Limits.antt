-- Document 01's table of limits. What is handed in is tested against the first four; that what is found keeps within the others is a
-- theorem (`found_within`, proofs/Bounds). The theory is over any limit; the code has these.
use Rattle.std.specs.Prelude.{◌≡◌, ℕ, ◌+◌, ◌-◌, ◌*◌, ◌≤◌, ◌<◌, ℤ, pos, neg_ℤ, ◌≤ℤ◌}

-- "rows N: 1 to 32"
abbrev pub row_limit : ℕ
row_limit = 32

-- "order: −100 to 100"
abbrev pub order_limit : ℕ
order_limit = 100

-- "addition handed in: 0 to 10,000"
abbrev pub addition_limit : ℕ
addition_limit = 10000

-- "sheet: 12,288 bytes"
abbrev pub sheet_limit : ℕ
sheet_limit = 12288

-- "addition found: at most (N − 1) × 200, so 6,200"
abbrev pub addition_found : ℕ → ℕ
addition_found n = (n - 1) * (2 * order_limit)

-- "column maximum found: −100 to 6,300"
abbrev pub head_found : ℕ → ℕ
head_found n = addition_found n + order_limit

-- "sum: −3,200 to 3,200, signed"
abbrev pub sum_found : ℕ → ℕ
sum_found n = n * order_limit

-- document 01's own figures, those of the largest table
abbrev pub Figures : Type 0
Figures = (addition_found row_limit ≡ 6200) × (head_found row_limit ≡ 6300) × (sum_found row_limit ≡ 3200)

-- additions l, heads h and a sum s found for a table of n rows are within the limits
pub record FoundWithin (n : ℕ) (l : ℕ → ℕ) (h : ℕ → ℤ) (s : ℤ) : Type 0 where
  pub addition : (i : ℕ) → i < n → l i ≤ addition_found n
  pub addition_most : (i : ℕ) → i < n → l i ≤ addition_found row_limit
  pub head_least : (j : ℕ) → j < n → neg_ℤ (pos order_limit) ≤ℤ h j
  pub head_most : (j : ℕ) → j < n → h j ≤ℤ pos (head_found row_limit)
  pub sum_least : neg_ℤ (pos (sum_found row_limit)) ≤ℤ s
  pub sum_most : s ≤ℤ pos (sum_found row_limit)
