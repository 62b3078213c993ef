-- Row i takes the first column that the rows before it leave to it, and the marks are shifted along the way. Assumes nothing.
use borrow.Author.Rules.{rules}
use Rattle.theory.specs.Lists.{nums}
use Rattle.ways.specs.Parts.{size, order_at, added}
use Rattle.ways.proofs.Joining.{root_found}
use Rattle.stars.proofs.Moving.{Chosen, chosen, move_start, move_next, move_end}
use Rattle.stars.proofs.shift.Goals as goal
use Rattle.stars.proofs.shift.Goals.{After-unwrap_or-j}

-- the column that row i takes
chosen_at : (c : After-unwrap_or-j)
    → Chosen (size c.args.raised.now) (order_at c.args.raised.now) (added c.args.raised.now) (nums c.args.marks.now.rows)
    (nums c.find.new.self.step) c.args.i (nums c.args.marks.now.columns c.args.i) c.unwrap_or-j.result
chosen_at c =
    let p = c.requires in
    chosen _ c.least_column-earlier.result c.least_column-earlier.ensures c.unwrap_or-j.ensures (λ k told. search rules)
    (λ k told known. search rules) (p.1.of_maxima.maximum c.args.i p.0)
    (rw (p.1.marks.back c.args.i p.0) (root_found c.find.ensures.found.ways))

pub loop-m-init : goal.loop-m-init
loop-m-init c =
    let p = c.requires in
    move_start p.1 p.0 p.2 c.find.ensures (chosen_at (goal.at.loop-m-init c).After-unwrap_or-j)

pub loop-m-preserved : goal.loop-m-preserved
loop-m-preserved c =
    let p = c.requires in
    move_next p.1 p.0 p.2 c.find.ensures (chosen_at (goal.at.loop-m-preserved c).After-unwrap_or-j)
    c.loop-m.invariant c.loop-m-test.true c.swap.ensures

pub returns : goal.returns
returns c =
    let p = c.requires in
    move_end p.1 p.0 p.2 c.find.ensures (chosen_at (goal.at.returns c).After-unwrap_or-j)
    c.loop-m.invariant c.loop-m-test.false
