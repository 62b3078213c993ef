-- The yes-or-no keeps its promise. Assumes nothing.
use Rattle.std.proofs.lemmas.Result.{err_from_is_err_and}
use Rattle.canon.proofs.Refusing.{decline_first, decline_addition, decline_reduced, judge}
use Rattle.canon.proofs.is_simplest.Goals as goal

pub returns-in_err-tested : goal.returns-in_err-tested
returns-in_err-tested c =
    let p = err_from_is_err_and c.from_residual.result c.from_residual.ensures.1 in
    rw (p.1, p.2) (decline_first c.tested.ensures _ c.in_err-tested.was)

pub returns-then-not-additions_stand : goal.returns-then-not-additions_stand
returns-then-not-additions_stand c = decline_addition (c.tested.ensures.passed c.in_ok-tested.was) c.if-not-additions_stand.ensures

pub returns-in_err-judged : goal.returns-in_err-judged
returns-in_err-judged c =
    let p = err_from_is_err_and c.from_residual-in_err-judged.result c.from_residual-in_err-judged.ensures.1 in
    rw (p.1, p.2)
    (decline_reduced (c.tested.ensures.passed c.in_ok-tested.was) c.if-not-additions_stand.ensures c.from_additions.ensures _ c.in_err-judged.was)

pub returns : goal.returns
returns c =
    judge (c.tested.ensures.passed c.in_ok-tested.was) c.if-not-additions_stand.ensures (c.from_additions.ensures.reduced _ c.in_ok-judged.was)
