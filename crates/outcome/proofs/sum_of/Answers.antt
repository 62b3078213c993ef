-- The sum, one row after the other. Assumes nothing.
use native.Mathlib.Omega.{arith}
use mathlib.Core.Path.{sym}
use borrow.Author.Rules.{sfits_of}
use Rattle.outcome.proofs.Parts.{total_none, sum_start, sum_more}
use Rattle.outcome.proofs.sum_of.Goals as goal

pub loop-i-init : goal.loop-i-init
loop-i-init c = (sym (total_none _), sum_start)

pub loop-i-preserved : goal.loop-i-preserved
loop-i-preserved c =
    sum_more _ c.loop-i.i _ c.place.result c.from-sum.result (omega (arith, c.args.table.now.square.small)) (sfits_of c.place.type_inv)
    c.from-sum.ensures c.place.ensures c.loop-i.invariant
