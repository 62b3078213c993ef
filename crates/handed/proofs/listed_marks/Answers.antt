-- The marks of a list of stars. Assumes nothing.
use mathlib.Core.Path.{◌≡◌}
use Prim.Native.Nat.{◌<◌}
use native.Mathlib.Omega.{arith}
use Rattle.handed.proofs.Marking.{marked_start, marked_low, marked_high, marked_twice, marked_end, marked_wrong}
use Rattle.handed.proofs.listed_marks.Goals as goal
use Rattle.handed.proofs.listed_marks.Goals.{then-star-eq0-via-then-star-eq0, then-star-eq0-via-else-star-eq0+then-n-star}
use Rattle.handed.proofs.listed_marks.Goals.{then-star-eq0-via-else-star-eq0+else-n-star+then-taken-star}

pub loop-i-init : goal.loop-i-init
loop-i-init c = marked_start _ _

pub returns-then-star-eq0 : goal.returns-then-star-eq0
returns-then-star-eq0 c =
    let l = c.loop-i in
    let long = c.requires.1 in
    let hi : l.i < c.args.n = omega arith in
    marked_wrong (elim c.then-star-eq0.branch [
      | then-star-eq0-via-then-star-eq0 w ↦ marked_low l.invariant hi long w.if-star-eq0.true
      | then-star-eq0-via-else-star-eq0+then-n-star w ↦ marked_high l.invariant hi long w.if-n-star.true
      | then-star-eq0-via-else-star-eq0+else-n-star+then-taken-star w ↦ marked_twice l.invariant hi long (omega arith) w.if-taken-star.true
    ])

pub returns : goal.returns
returns c =
    let e : c.loop-i.i ≡ c.args.n = omega arith in
    marked_end c.requires.1 (rw e at c.loop-i.invariant)
