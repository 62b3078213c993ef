-- The columns are tried from the first. Assumes nothing.
use Rattle.theory.specs.Lists.{nums}
use Rattle.ways.specs.Parts.{size, order_at, added}
use Rattle.ways.specs.Search.{NoColumn}
use Rattle.ways.proofs.raised.Raised.least_column.Given as goal

abbrev pub invariant-loop-j : goal.invariant-loop-j
invariant-loop-j g l = NoColumn (size l.self) (order_at l.self) (added l.self) (nums l.rows) (goal.F-post g l.eligible) l.i l.j
