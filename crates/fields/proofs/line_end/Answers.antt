-- The first line feed ends the first line. Assumes nothing.
use Rattle.fields.proofs.LineLaws.{line_none}
use Rattle.fields.proofs.line_end.Goals as goal

pub returns-then-end-s : goal.returns-then-end-s
returns-then-end-s c = line_none c.before_feed-end.ensures c.if-end-s.true
