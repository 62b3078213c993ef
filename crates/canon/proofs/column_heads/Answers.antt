-- The heads of all columns keep their promise. Assumes nothing.
use mathlib.Core.Path.{◌≡◌, refl}
use native.Mathlib.Omega.{arith}
use Rattle.std.proofs.lemmas.Result.{err_from_is_err_and}
use Rattle.canon.proofs.Filling.{leave_first, leave_addition, filled}
use Rattle.canon.proofs.column_heads.Goals as goal

pub returns-in_err-tested : goal.returns-in_err-tested
returns-in_err-tested c =
    let p = err_from_is_err_and c.from_residual.result c.from_residual.ensures.1 in
    rw (p.1, p.2) (leave_first _ _ _ _ _ _ c.tested.ensures _ c.in_err-tested.was)

pub returns-then-not-additions_stand : goal.returns-then-not-additions_stand
returns-then-not-additions_stand c =
    leave_addition _ _ _ _ _ _ (c.tested.ensures.passed c.in_ok-tested.was) c.if-not-additions_stand.ensures refl

pub returns : goal.returns
returns c =
    let s = c.tested.ensures.passed c.in_ok-tested.was in
    let e : c.loop-j.j ≡ c.args.n = omega arith in
    filled _ _ _ _ _ _ s c.if-not-additions_stand.ensures refl c.held.result c.held.ensures c.heads-tops.ensures (rw e at c.loop-j.invariant)
    (omega (arith, s.fitting.1.0)) (omega (arith, s.fitting.1.1.0)) (omega (arith, s.fitting.1.1.1.0))
