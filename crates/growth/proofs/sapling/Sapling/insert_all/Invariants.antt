-- The rows are inserted one after the other. Assumes nothing.
use Prim.Native.Nat.{ℕ}
use Rattle.growth.specs.Growing.{Ready}
use Rattle.growth.proofs.sapling.Sapling.insert_all.Given as goal

abbrev pub invariant-loop-s : goal.invariant-loop-s
invariant-loop-s l = (start : ℕ → ℕ) → Ready l.table.entries.now l.table.n start 0 l.initial.self.raised l.initial.self.marks
    → Ready l.table.entries.now l.table.n start l.s l.self.raised l.self.marks
