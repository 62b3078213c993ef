-- Head, lowest row and count of each column, one column after the other. Assumes nothing.
use Rattle.std.proofs.Common.{◌≡◌, arith}
use Rattle.orders.proofs.Places.{tops_step}
use Rattle.orders.proofs.table.Table.heads.Goals as goal

pub loop-j-preserved : goal.loop-j-preserved
loop-j-preserved c = tops_step c.loop-j.invariant (omega (arith, c.args.self.now.square.small)) c.head-top.ensures

pub returns : goal.returns
returns c = let e : c.loop-j.j ≡ c.args.self.now.n = omega arith in rw e at c.loop-j.invariant.tops
