-- The place of each row is tested. Assumes nothing.
use Rattle.std.proofs.Common.{rules}
use Rattle.std.proofs.iter.runs.Sources.{ranges}
use Rattle.handed.proofs.all_present.Goals as goal

pub returns : goal.returns
returns c = search (rules, ranges)
