-- The rows are starred one after the other. Assumes nothing.
use Rattle.stars.proofs.Progress.{progress_next}
use Rattle.stars.proofs.star_rows.Goals as goal

pub loop-i-preserved : goal.loop-i-preserved
loop-i-preserved c = progress_next c.loop-i.invariant c.star_row.ensures
