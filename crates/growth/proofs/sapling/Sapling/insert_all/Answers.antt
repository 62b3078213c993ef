-- The rows are inserted one after the other. Assumes nothing.
use Rattle.std.proofs.Common.{◌≡◌, arith}
use Rattle.growth.proofs.sapling.Sapling.insert_all.Goals as goal

pub insert-requires-clause-ready : goal.insert-requires-clause-ready
insert-requires-clause-ready c = record { start = _; ready = c.loop-s.invariant c.requires.start c.requires.ready }

pub returns : goal.returns
returns c = let e : c.loop-s.s ≡ c.args.table.now.n = omega arith in rw e at c.loop-s.invariant
