-- Route 1 keeps its promise. Assumes nothing.
use mathlib.Core.Path.{refl, ap}
use mathlib.Core.Logic.{inl}
use borrow.Author.Rules.{rules}
use mir.Syntax.{w32}
use mir.Val.{SFits}
use mir.Facts.{to_z-of_z}
use Rattle.std.proofs.lemmas.Result.{err_from_is_err_and}
use Rattle.std.proofs.lemmas.Option.{MatchOption-at_none, MatchOption-at_some}
use Rattle.orders.specs.Refusals.{gives}
use Rattle.orders.specs.Held.{Long}
use Rattle.orders.proofs.Zeros.{zero_start, zero_simplest}
use Rattle.outcome.proofs.Delivery.{delivery}
use Rattle.canon.proofs.Refusing.{refuse_first, refuse_later, lent}
use Rattle.canon.proofs.Solving.{answer_whole, none_refused}
use Rattle.canon.proofs.Answering.{routed}
use Rattle.canon.proofs.solve.Goals as goal

pub returns-in_err-tested : goal.returns-in_err-tested
returns-in_err-tested c =
    let p = err_from_is_err_and c.from_residual.result c.from_residual.ensures.1 in
    rw (p.1, p.2) (refuse_first c.tested.ensures _ c.in_err-tested.was)

pub solved-requires : goal.solved-requires
solved-requires c =
    let s = c.tested.ensures.passed c.in_ok-tested.was in
    record { square = s.square; entries = s.entries; handed_in = λ i hi. zero_start _ i }

pub returns-in_err-answer : goal.returns-in_err-answer
returns-in_err-answer c =
    let p = err_from_is_err_and c.from_residual-in_err-answer.result c.from_residual-in_err-answer.ensures.1 in
    let s = c.tested.ensures.passed c.in_ok-tested.was in
    let e = none_refused c.solved.result _ _ c.ok_or.ensures.value c.in_err-answer.was in
    rw (p.1, p.2, e.1) (refuse_later s 6 (inl (MatchOption-at_none _ _ e.0 c.solved.ensures, refl)) refl)

pub returns : goal.returns
returns c =
    let s = c.tested.ensures.passed c.in_ok-tested.was in
    let w = c.in_ok-answer.answer in
    let a = MatchOption-at_some _ _ w c.in_ok-answer.ensures.ok_part c.solved.ensures in
    let fits : SFits w32 w.sum = search rules in
    let wide : Long w.additions × Long w.stars × Long w.heads = search rules in
    routed s ((λ none. none _ a.solution.stars.of_maxima.transversal), tt) (ap gives (to_z-of_z fits))
    (zero_simplest a.solution.additions)
    (delivery s.square.small (lent s.fitting) wide.0 wide.1 wide.2 (answer_whole a) c.hand_out.ensures)
