-- One round, row by row. Assumes nothing.
use Rattle.theory.specs.Limits.{order_limit}
use Rattle.theory.specs.Lists.{nums}
use Rattle.theory.specs.Table.{entry}
use Rattle.raising.specs.Rounds.{Round}
use Rattle.raising.proofs.round.Given as goal

abbrev pub invariant-loop-i : goal.invariant-loop-i
invariant-loop-i l =
    Round order_limit l.table.n (entry l.table.entries.now l.table.n) (nums l.columns) (nums l.fn.additions) l.i l.ended (nums l.additions)
