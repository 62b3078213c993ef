-- All rows are inserted; the additions are then the least canon from the start. Assumes nothing.
use mathlib.Core.Path.{refl}
use Rattle.theory.specs.Lists.{nums}
use Rattle.growth.proofs.Inserting.{first_ready, grown_least, grown_marks}
use Rattle.growth.proofs.grow.Goals as goal

pub insert_all-requires : goal.insert_all-requires
insert_all-requires c =
    record { start = nums c.args.start; ready = first_ready c.args.table.now.square c.requires refl c.in_ok-heads.ensures.1 refl }

pub returns : goal.returns
returns c =
    let r = c.in_ok-insert_all.ensures (nums c.args.start)
    (first_ready c.args.table.now.square c.requires refl c.in_ok-heads.ensures.1 refl) in
    record { least = grown_least r; marks = grown_marks r }
