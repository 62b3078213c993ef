-- A section's heading is the first line of the rest. Assumes nothing.
use Rattle.lines.proofs.LineLaws.{heading_missing, heading_other}
use Rattle.lines.proofs.Section.heading.Goals as goal

pub returns-in_err-end : goal.returns-in_err-end
returns-in_err-end c = rw c.from_residual.ensures (heading_missing _ _ c.in_err-end.ensures)

pub returns-in_err-value : goal.returns-in_err-value
returns-in_err-value c =
    rw c.from_residual-in_err-value.ensures (heading_other _ _ c.in_ok-end.ensures c.in_err-value.ensures)
