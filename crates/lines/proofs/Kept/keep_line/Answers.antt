-- A line is kept as a label of its section, or as an order. Assumes nothing.
use Rattle.lines.proofs.KeepLaws.{row_kept, col_kept}
use Rattle.lines.proofs.Kept.keep_line.Goals as goal

pub returns-in-Rows : goal.returns-in-Rows
returns-in-Rows c =
    rw c.in-Rows.is
    (λ st m h d.
    row_kept _ _ m _ st h d c.keep_label.result _ (c.keep_label.ensures st.row_labels h.rows_held d.rows_are h.rows_stand))

pub returns-in-Cols : goal.returns-in-Cols
returns-in-Cols c =
    let k = c.keep_label-in-Cols in
    rw c.in-Cols.is (λ st m h d. col_kept _ _ m _ st h d k.result _ (k.ensures st.col_labels h.cols_held d.cols_are h.cols_stand))

pub returns-in-Orders : goal.returns-in-Orders
returns-in-Orders c = rw c.in-Orders.is (c.keep_order.ensures _)
