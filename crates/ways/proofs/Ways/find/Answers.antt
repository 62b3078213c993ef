-- The columns of the rows found are scanned one after the other, until the row wanted is found or none is left. Assumes nothing.
use native.Mathlib.Omega.{arith}
use Rattle.ways.proofs.Scanning.{search_next}
use Rattle.ways.proofs.Ways.find.Goals as goal

pub loop-at-preserved : goal.loop-at-preserved
loop-at-preserved c = search_next c.loop-at.invariant (omega arith) c.scan.ensures
