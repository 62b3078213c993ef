-- The gaps of the unreached columns, one after the other, with one more row in the tree. Assumes nothing.
use Rattle.gaps.proofs.Passes.{Looking}
use Rattle.gaps.proofs.tree.Tree.look.Given as goal

abbrev pub invariant-loop-j : goal.invariant-loop-j
invariant-loop-j l = Looking l.table.entries.now l.table.n l.j l.row l.raised l.initial.self l.self l.least
