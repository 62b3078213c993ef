-- The way back from an unmarked column to row s. Assumes nothing.
use mathlib.Core.Path.{◌≡◌}
use Prim.Native.Nat.{ℕ, ◌<◌}
use lib.IntN.{ℤ}
use Rattle.theory.specs.Limits.{row_limit}
use Rattle.theory.specs.Lists.{nums}
use Rattle.growth.specs.Growing.{WayBack}
use Rattle.growth.proofs.Flipping.{Open, still_same}
use Rattle.growth.proofs.sapling.Sapling.flip.Given as goal

abbrev pub invariant-loop-i : goal.invariant-loop-i
invariant-loop-i l =
    (l.i < row_limit) × (l.j < row_limit) × (l.self.raised ≡ l.initial.self.raised)
    × ((n : ℕ) (a : ℕ → ℕ → ℤ) (adds : ℕ → ℕ) (h : ℕ → ℤ)
    (w : WayBack n a l.s adds h (nums l.initial.self.marks.rows) (nums l.initial.self.marks.columns) (nums l.givers) l.end)
    → Open w (nums l.self.marks.rows) (nums l.self.marks.columns) l.j l.i)

abbrev pub decreases-loop-i : goal.decreases-loop-i
decreases-loop-i l = still_same (nums l.initial.self.marks.rows) (nums l.self.marks.rows)
