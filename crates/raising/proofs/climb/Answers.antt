-- The rounds, at most n of them. Assumes nothing.
use mathlib.Core.Path.{◌≡◌}
use Prim.Native.Nat.{◌+◌, ◌-◌}
use native.Mathlib.Omega.{arith}
use Rattle.theory.specs.Limits.{order_limit, addition_limit}
use Rattle.raising.proofs.Ends.{starts, one_round, goes_on, climbed_ended, climbed_last}
use Rattle.raising.proofs.climb.Goals as goal

pub loop-rounds-init : goal.loop-rounds-init
loop-rounds-init c = record { before = starts _ _ _ _ _ _ c.requires.0.handed_in; few = omega arith }

pub returns-then-round : goal.returns-then-round
returns-then-round c =
    let w = one_round order_limit addition_limit _ _ _ _ c.loop-rounds.invariant.before c.round.ensures c.requires.1 in
    climbed_ended _ c.args.table.now.square.small (omega arith) w c.if-round.true

pub loop-rounds-preserved : goal.loop-rounds-preserved
loop-rounds-preserved c =
    let w = one_round order_limit addition_limit _ _ _ _ c.loop-rounds.invariant.before c.round.ensures c.requires.1 in
    let e : c.loop-rounds._rounds + 1 - 1 ≡ c.loop-rounds._rounds - 1 + 1 = omega arith in
    record { before = rw e (goes_on order_limit addition_limit _ _ _ _ w c.if-round.false); few = omega arith }

pub returns : goal.returns
returns c =
    let w = one_round order_limit addition_limit _ _ _ _ c.loop-rounds.invariant.before c.round-2.ensures c.requires.1 in
    rw c.then_some.ensures (climbed_last _ c.args.table.now.square.small (omega arith) w (omega arith))
