-- The head of each column under the start, or a column with no order. Assumes nothing.
use native.Mathlib.Omega.{arith}
use Rattle.theory.proofs.Ties.{no_row_none}
use Rattle.growth.proofs.first_heads.Goals as goal

pub returns-then-top-eq0 : goal.returns-then-top-eq0
returns-then-top-eq0 c = no_row_none _ _ c.head-top.ensures (omega arith) c.if-top-eq0.true
