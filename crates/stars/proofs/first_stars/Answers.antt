-- The heads of the columns are those of a raised table. Assumes nothing.
use Rattle.ways.proofs.Tightness.{heads_stand}
use Rattle.stars.proofs.first_stars.Goals as goal

pub invariant_of-raised : goal.invariant_of-raised
invariant_of-raised c = record { under_ceiling = c.requires.1.under_ceiling; heads_stand = heads_stand c.requires.0 }
