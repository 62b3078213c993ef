-- The parts of a raised table, as the definitions of the theory take them.
use Rattle.std.specs.Prelude.{ℕ, ℤ}
use Rattle.theory.specs.Lists.{nums}
use Rattle.theory.specs.Table.{entry}
use Rattle.ways.specs.declared.raised.Raised.{Raised}

-- how many rows it has
abbrev pub size : Raised → ℕ
size g = g.table.n

-- what stands in row i and column j
abbrev pub order_at : Raised → ℕ → ℕ → ℤ
order_at g = entry g.table.entries.now g.table.n

-- the addition of row i
abbrev pub added : Raised → ℕ → ℕ
added g = nums g.additions.now
