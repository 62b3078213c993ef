-- Rows join the tree of row s, one after the other, until an unmarked column is tight. Assumes nothing.
use mathlib.Core.Path.{refl}
use native.Mathlib.Omega.{arith}
use Rattle.growth.proofs.Inserting.{begin, joining, closed, rising, meeting, fewer, joined}
use Rattle.growth.proofs.sapling.Sapling.reach.Goals as goal

pub loop-gap-init : goal.loop-gap-init
loop-gap-init c = λ start r. begin r c.requires.inside c.requires.bare

pub look-requires : goal.look-requires
look-requires c =
    let p = c.requires in
    joining p.ready.ready p.inside (c.loop-gap.invariant p.ready.start p.ready.ready)

pub returns-in_err-gap : goal.returns-in_err-gap
returns-in_err-gap c =
    let p = c.requires in
    rw c.from_residual.ensures
    (closed p.ready.ready p.inside (c.loop-gap.invariant p.ready.start p.ready.ready) c.in_err-gap.ensures c.in_err-gap.ensures.least)

pub rise_by-requires : goal.rise_by-requires
rise_by-requires c =
    let p = c.requires in
    rising p.ready.ready p.inside (c.loop-gap.invariant p.ready.start p.ready.ready) c.in_ok-gap.ensures c.in_ok-gap.ensures.least

pub returns-then-table-self : goal.returns-then-table-self
returns-then-table-self c start r =
    meeting r c.requires.inside (c.loop-gap.invariant start r) c.in_ok-gap.ensures c.in_ok-gap.ensures.least c.rise_by.ensures c.if-table-self.true

pub loop-gap-smaller : goal.loop-gap-smaller
loop-gap-smaller c =
    let p = c.requires in
    fewer p.ready.ready p.inside (c.loop-gap.invariant p.ready.start p.ready.ready) c.in_ok-gap.ensures c.in_ok-gap.ensures.least c.rise_by.ensures

pub loop-gap-preserved : goal.loop-gap-preserved
loop-gap-preserved c start r =
    joined r c.requires.inside (c.loop-gap.invariant start r) c.in_ok-gap.ensures c.in_ok-gap.ensures.least c.rise_by.ensures
    (omega (arith, c.if-table-self.false)) _ refl refl refl refl
