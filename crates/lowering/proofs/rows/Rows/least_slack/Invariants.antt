-- The unsettled row with the least slack. Assumes nothing.
use Rattle.lowering.specs.Descent.{LeastSlack}
use Rattle.lowering.proofs.rows.Rows.least_slack.Given as goal

abbrev pub invariant-loop-i : goal.invariant-loop-i
invariant-loop-i l = LeastSlack l.i l.self l.best
