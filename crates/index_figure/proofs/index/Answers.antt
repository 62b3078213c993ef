-- The largest addition and what the figure has beyond it. Assumes nothing.
use Rattle.index_figure.proofs.Searching.{figure}
use Rattle.index_figure.proofs.index.Goals as goal

pub returns : goal.returns
returns c = figure c.requires c.largest.ensures c.beyond_largest.ensures
