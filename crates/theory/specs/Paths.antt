-- The way from row to row on which additions depend on one another (001, sets A, B, C). R is a relation between n rows and n columns,
-- as "row i holds a maximum in column j"; μ gives rows a column each, as a transversal does.
use Rattle.std.specs.Prelude.{◌≢◌, ℕ, ◌<◌}

module _ (n : ℕ) (R : ℕ → ℕ → Type 0) (μ : ℕ → ℕ) where
  -- "from a row [..], by that row's column in the set, to another row holding a maximum there" (document 02)
  pub record Leads (i k : ℕ) : Type 0 where
    pub from : i < n
    pub column : μ i < n
    pub to : k < n
    pub another : k ≢ i
    pub holds : R k (μ i)

  -- "and so on"; "every row has a path to itself"
  pub data Path : ℕ → ℕ → Type 0 where
    itself : (i : ℕ) → Path i i
    onward : {i k m : ℕ} → Leads i k → Path k m → Path i m
