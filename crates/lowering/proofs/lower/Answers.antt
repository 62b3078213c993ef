-- The fall from a canon to the least canon from the floors. Assumes nothing.
use mathlib.Core.Path.{refl}
use Rattle.lowering.proofs.Descent.{going_start, going_spare, going_under, going_step, going_fewer, going_end}
use Rattle.lowering.proofs.lower.Goals as goal

pub loop-k-init : goal.loop-k-init
loop-k-init c = going_start c.requires

pub fall-requires : goal.fall-requires
fall-requires c = (c.args.table.now.square.small, going_spare c.requires c.loop-k.invariant (c.in-Some.ensures.found _ refl))

pub settle-requires-clause-inside : goal.settle-requires-clause-inside
settle-requires-clause-inside c = ((c.in-Some.ensures.found _ refl).inside, c.requires.canon_by.of_maxima.transversal.inside)

pub settle-requires-clause-low : goal.settle-requires-clause-low
settle-requires-clause-low c =
    let s = c.in-Some.ensures.found _ refl in
    going_under c.requires c.loop-k.invariant s c.fall.ensures c.in-Some.k s.inside

pub loop-k-smaller : goal.loop-k-smaller
loop-k-smaller c =
    let s = c.in-Some.ensures.found _ refl in
    going_fewer c.requires c.loop-k.invariant s c.fall.ensures c.settle.ensures c.args.table.now.square.small

pub loop-k-preserved : goal.loop-k-preserved
loop-k-preserved c = going_step c.requires c.loop-k.invariant (c.in-Some.ensures.found _ refl) c.fall.ensures c.settle.ensures

pub returns : goal.returns
returns c = going_end c.requires c.loop-k.invariant (c.in_default.ensures.none refl)
