-- The whole answer is worked out and copied out. Assumes nothing.
use borrow.Author.Rules.{rules}
use mir.Syntax.{w32}
use mir.Val.{SFits}
use mir.Facts.{to_z-of_z}
use Rattle.outcome.proofs.Delivery.{delivery}
use Rattle.orders.specs.Held.{Long}
use Rattle.outcome.proofs.delivered.Goals as goal
use Rattle.outcome.proofs.delivered.Goals.{After-completed-answer}

-- what a call gave fits its types
sum_fits : (c : After-completed-answer) → SFits w32 c.completed-answer.result.sum
sum_fits c = search rules

wide : (c : After-completed-answer)
    → Long c.completed-answer.result.additions × Long c.completed-answer.result.stars × Long c.completed-answer.result.heads
wide c = search rules

pub returns : goal.returns
returns c =
    let p = (goal.at.returns c).After-completed-answer in
    let w = wide p in
    rw (to_z-of_z (sum_fits p))
    (delivery c.args.table.now.square.small c.requires.2 w.0 w.1 w.2 c.completed-answer.ensures c.hand_out.ensures)
