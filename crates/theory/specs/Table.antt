-- The square table of orders. Rows are equations, columns unknowns.
use Rattle.std.specs.Prelude.{◌≢◌, List, ℕ, ◌+◌, ◌*◌, ◌<◌, ℤ, pos, negsuc, neg_ℤ, get_or, length, ◌≤ℤ◌, ◌<ℤ◌}

-- "−32768 means absent: the unknown doesn't occur."
abbrev pub absent : ℤ
absent = negsuc 32767

-- "Absent is not 0, and not a small order. Every other value is an order."
abbrev pub Present : ℤ → Type 0
Present v = v ≢ absent

-- "a negative order": one below 0. Absent is no order, and so not negative.
abbrev pub Negative : ℤ → Type 0
Negative v = Present v × (v <ℤ pos 0)

-- "The table comes row by row in one lent slice": what stands in row i and column j of the table of n rows. (Past the list's end it
-- is 0; the length is tested before a place is read.)
abbrev pub entry : List ℤ → ℕ → ℕ → ℕ → ℤ
entry t n i j = get_or t (i * n + j) (pos 0)

-- an "order −100 to 100": `limit` is document 01's 100
pub record Order (limit : ℕ) (v : ℤ) : Type 0 where
  pub low : neg_ℤ (pos limit) ≤ℤ v
  pub high : v ≤ℤ pos limit

-- every entry of the n × n is absent or an order: none "is neither absent nor −100 to 100"
abbrev pub WithinLimit : ℕ → ℕ → (ℕ → ℕ → ℤ) → Type 0
WithinLimit limit n a = (i j : ℕ) → i < n → j < n → Present (a i j) → Order limit (a i j)

-- the same of the list behind the slice
abbrev pub Entries : ℕ → List ℤ → Type 0
Entries limit t = (k : ℕ) → k < length t → Present (get_or t k (pos 0)) → Order limit (get_or t k (pos 0))
