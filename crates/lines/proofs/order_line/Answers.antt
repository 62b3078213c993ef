-- An order line: a row, a column and an order, each read from the rest of the line. Assumes nothing.
use Rattle.std.proofs.Common.{drop}
use Rattle.sheet.proofs.Bytes.{rest}
use Rattle.lines.proofs.LineLaws.{no_row, no_col, no_order}
use Rattle.lines.proofs.order_line.Goals as goal

pub returns-in_err-row : goal.returns-in_err-row
returns-in_err-row c = rw c.from_residual.ensures (no_row _ _ c.in_err-row.ensures)

pub returns-in_err-col : goal.returns-in_err-col
returns-in_err-col c =
    let e = rest c.args.line.now c.in_ok-row.row.taken in
    rw c.from_residual-in_err-col.ensures (no_col _ _ c.in_ok-row.ensures (rw e at c.in_err-col.ensures))

pub returns-in_err-order : goal.returns-in_err-order
returns-in_err-order c =
    let e = rest c.args.line.now c.in_ok-row.row.taken in
    let f = rest (drop c.in_ok-row.row.taken c.args.line.now) c.in_ok-col.col.taken in
    rw c.from_residual-in_err-order.ensures
    (no_order _ _ c.in_ok-row.ensures (rw e at c.in_ok-col.ensures) (rw (e, f) at c.in_err-order.ensures))
