-- The line that is kept is the first of the rest. Assumes nothing.
use Rattle.lines.proofs.KeepLaws.{front_missing, front_unfit, front_fit}
use Rattle.lines.proofs.Kept.keep.Goals as goal

pub returns-in_err-end : goal.returns-in_err-end
returns-in_err-end c = rw c.from_residual.ensures (λ st m h d. front_missing c.in_err-end.ensures)

pub returns-then-not-keep_line : goal.returns-then-not-keep_line
returns-then-not-keep_line c = λ st m h d. front_unfit c.in_ok-end.ensures (c.if-not-keep_line.ensures st m h d)

pub returns : goal.returns
returns c = λ st m h d.
    let f = c.if-not-keep_line.ensures st m h d in (f.0, front_fit c.in_ok-end.ensures f.1, f.2, f.3)
