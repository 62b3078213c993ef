-- One row after the other comes to its first column, and then the transversal is the first. Assumes nothing.
use mathlib.Core.Path.{◌∙◌}
use Prim.Native.Nat.{ℕ, ◌+◌, ◌<◌}
use native.Mathlib.Decide.{ℕ_discrete}
use native.Mathlib.Omega.{arith}
use Rattle.theory.specs.Lists.{nums}
use Rattle.orders.specs.declared.marks.Marked.{Marked}
use Rattle.ways.specs.declared.raised.Raised.{Raised}
use Rattle.stars.specs.Shift.{MaximaIn, FirstAt, Starred}

-- the rows before i are at their first columns
pub record Progress (g : Raised) (w : Marked) (i : ℕ) : Type 0 where
  pub maxima : MaximaIn g w
  pub first : (x : ℕ) → x < i → FirstAt g (nums w.columns) x

module _ {g : Raised} {w : Marked} where
  pub progress_next : {i : ℕ} {r : Marked} → Progress g w i → Starred g w i r → Progress g r (i + 1)
  progress_next {i} p s = record {
    maxima = s.maxima;
    first = λ x h τ of same. elim (ℕ_discrete x i) [
      | yes e ↦ rw e (s.first τ of (λ y hy. same y (omega arith)))
      | no ne ↦ rw (s.before x (omega arith)) (p.first x (omega arith) τ of (λ y hy. same y hy ∙ s.before y (omega arith)))
    ];
  }
