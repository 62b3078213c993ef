-- The rows of the tree and the reached columns are raised, one after the other, and the gaps narrowed. Assumes nothing.
use Rattle.gaps.proofs.Passes.{RisenTo}
use Rattle.gaps.proofs.tree.Tree.rise_by.Given as goal

abbrev pub invariant-loop-i : goal.invariant-loop-i
invariant-loop-i l = RisenTo l.i l.rise l.initial.self l.initial.raised l.self l.raised
