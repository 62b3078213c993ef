-- Route 3 keeps its promise. Assumes nothing.
use mathlib.Core.Path.{ap}
use borrow.Author.Rules.{sfits_of}
use mir.Syntax.{w32}
use mir.Facts.{to_z-of_z}
use Rattle.std.proofs.lemmas.Result.{err_from_is_err_and}
use Rattle.orders.specs.Refusals.{gives}
use Rattle.canon.proofs.Refusing.{refuse_first, refuse_stars, refuse_raised, stars_passed, lent, given_columns}
use Rattle.canon.proofs.Solving.{none_refused}
use Rattle.canon.proofs.Answering.{routed}
use Rattle.canon.proofs.from_stars.Goals as goal

pub returns-in_err-tested : goal.returns-in_err-tested
returns-in_err-tested c =
    let p = err_from_is_err_and c.from_residual.result c.from_residual.ensures.1 in
    rw (p.1, p.2) (refuse_first c.tested.ensures _ c.in_err-tested.was)

pub returns-in_err-marks : goal.returns-in_err-marks
returns-in_err-marks c =
    let p = err_from_is_err_and c.from_residual-in_err-marks.result c.from_residual-in_err-marks.ensures.1 in
    let e = none_refused c.listed_marks.result _ _ c.ok_or.ensures.value c.in_err-marks.was in
    rw (p.1, p.2, e.1) (refuse_stars (c.tested.ensures.passed c.in_ok-tested.was) c.listed_marks.ensures e.0)

pub from_columns-requires : goal.from_columns-requires
from_columns-requires c =
    given_columns (c.tested.ensures.passed c.in_ok-tested.was) (c.listed_marks.ensures.listed _ c.in_ok-marks.ensures.ok_part)

pub returns-in_err-additions : goal.returns-in_err-additions
returns-in_err-additions c =
    let p = err_from_is_err_and c.from_residual-in_err-additions.result c.from_residual-in_err-additions.ensures.1 in
    rw (p.1, p.2)
    (refuse_raised (c.tested.ensures.passed c.in_ok-tested.was) (c.listed_marks.ensures.listed _ c.in_ok-marks.ensures.ok_part) c.from_columns.ensures _
    c.in_err-additions.was)

pub delivered-requires : goal.delivered-requires
delivered-requires c =
    let s = c.tested.ensures.passed c.in_ok-tested.was in
    let m = c.listed_marks.ensures.listed _ c.in_ok-marks.ensures.ok_part in
    let x = c.from_columns.ensures.raised _ c.in_ok-additions.was in
    (x.least.canon, m.marks, lent s.fitting.1)

pub returns : goal.returns
returns c =
    let s = c.tested.ensures.passed c.in_ok-tested.was in
    let m = c.listed_marks.ensures.listed _ c.in_ok-marks.ensures.ok_part in
    let x = c.from_columns.ensures.raised _ c.in_ok-additions.was in
    routed s (stars_passed m x) (ap gives (to_z-of_z {w = w32} {z = c.delivered.result} (sfits_of c.delivered.type_inv))) x.least.least c.delivered.ensures
