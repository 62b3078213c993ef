-- The columns of the rows found are scanned one after the other, until the row wanted is found or none is left. Assumes nothing.
use Prim.Native.Nat.{◌-◌}
use Rattle.ways.proofs.Scanning.{SearchedTo}
use Rattle.ways.proofs.Ways.find.Given as goal

abbrev pub invariant-loop-at : goal.invariant-loop-at
invariant-loop-at l = SearchedTo l.raised l.i l.columns l.at l.self

abbrev pub decreases-loop-at : goal.decreases-loop-at
decreases-loop-at l = l.raised.table.n - l.at
