-- From the columns of a transversal. Assumes nothing.
use Rattle.std.proofs.Common.{rules}
use Rattle.routes.proofs.Columns.{from_zeros, transversal_of, raised_ended, raised_endless, raised_absent}
use Rattle.routes.proofs.from_columns.Goals as goal
use Rattle.routes.proofs.from_columns.Goals.{else-all_present-via-else-all_present}
use Rattle.routes.proofs.from_columns.Goals.{else-all_present-via-then-all_present+in-None-1}

pub climb-requires : goal.climb-requires
climb-requires c =
    (from_zeros c.requires c.args.table.now.square, transversal_of c.requires (c.all_present.ensures.holds c.if-all_present.true))

pub returns : goal.returns
returns c = raised_ended (c.climb.ensures.least _ c.in-Some.is)

pub grow-requires : goal.grow-requires
grow-requires c = from_zeros c.requires c.args.table.now.square

pub returns-2 : goal.returns-2
returns-2 c =
    let w = (rw c.in_ok-ok_or.ensures.ok_part at c.grow.ensures).least in
    elim c.else-all_present.branch [
      | else-all_present-via-else-all_present v ↦ raised_absent w (c.all_present.ensures.fails v.if-all_present.false)
      | else-all_present-via-then-all_present+in-None-1 v ↦
          raised_endless w v.climb.ensures (search rules) (transversal_of c.requires (c.all_present.ensures.holds v.if-all_present.true))
    ]
