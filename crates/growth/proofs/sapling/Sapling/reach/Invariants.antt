-- Rows join the tree of row s, one after the other, until an unmarked column is tight. Assumes nothing.
use Prim.Native.Nat.{ℕ}
use Rattle.theory.specs.Lists.{flags}
use Rattle.growth.specs.Growing.{Ready}
use Rattle.growth.proofs.Inserting.{Searching}
use Rattle.orders.proofs.Flags.{unset}
use Rattle.growth.proofs.sapling.Sapling.reach.Given as goal

abbrev pub invariant-loop-gap : goal.invariant-loop-gap
invariant-loop-gap l = (start : ℕ → ℕ) → Ready l.table.entries.now l.table.n start l.s l.initial.self.raised l.initial.self.marks
    → Searching l.table.entries.now l.table.n start l.s l.self.raised l.self.marks l.tree l.row

abbrev pub decreases-loop-gap : goal.decreases-loop-gap
decreases-loop-gap l = unset l.table.n (flags l.tree.reached)
