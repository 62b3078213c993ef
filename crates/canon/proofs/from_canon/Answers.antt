-- Route 2 keeps its promise. Assumes nothing.
use mathlib.Core.Path.{ap}
use borrow.Author.Rules.{sfits_of}
use mir.Syntax.{w32}
use mir.Facts.{to_z-of_z}
use Rattle.std.proofs.lemmas.Result.{err_from_is_err_and}
use Rattle.orders.specs.Refusals.{gives}
use Rattle.canon.proofs.Refusing.{refuse_first, refuse_addition, refuse_reduced, canon_passed, lent, given_additions}
use Rattle.canon.proofs.Answering.{routed}
use Rattle.canon.proofs.from_canon.Goals as goal

pub returns-in_err-tested : goal.returns-in_err-tested
returns-in_err-tested c =
    let p = err_from_is_err_and c.from_residual.result c.from_residual.ensures.1 in
    rw (p.1, p.2) (refuse_first c.tested.ensures _ c.in_err-tested.was)

pub returns-then-not-additions_stand : goal.returns-then-not-additions_stand
returns-then-not-additions_stand c = refuse_addition (c.tested.ensures.passed c.in_ok-tested.was) c.if-not-additions_stand.ensures

pub from_additions-requires : goal.from_additions-requires
from_additions-requires c = given_additions (c.tested.ensures.passed c.in_ok-tested.was) c.if-not-additions_stand.ensures

pub returns-in_err-lowered : goal.returns-in_err-lowered
returns-in_err-lowered c =
    let p = err_from_is_err_and c.from_residual-in_err-lowered.result c.from_residual-in_err-lowered.ensures.1 in
    rw (p.1, p.2)
    (refuse_reduced (c.tested.ensures.passed c.in_ok-tested.was) c.if-not-additions_stand.ensures c.from_additions.ensures _ c.in_err-lowered.was)

pub delivered-requires : goal.delivered-requires
delivered-requires c =
    let s = c.tested.ensures.passed c.in_ok-tested.was in
    let x = c.from_additions.ensures.reduced _ c.in_ok-lowered.was in
    (x.least.canon, x.marks, lent s.fitting.1)

pub returns : goal.returns
returns c =
    let s = c.tested.ensures.passed c.in_ok-tested.was in
    let x = c.from_additions.ensures.reduced _ c.in_ok-lowered.was in
    routed s (canon_passed c.if-not-additions_stand.ensures x)
    (ap gives (to_z-of_z {w = w32} {z = c.delivered.result} (sfits_of c.delivered.type_inv))) x.least.least c.delivered.ensures
