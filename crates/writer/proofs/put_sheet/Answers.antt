-- Section after section, each in the room that those before it left. Assumes nothing.
use Rattle.sheet.specs.Text.{cols_head}
use Rattle.lettering.proofs.PutLaws.{begun, next_put, last_put}
use Rattle.writer.specs.Parts.{label_section, order_section, rest_text}
use Rattle.writer.proofs.put_sheet.Goals as goal

pub returns : goal.returns
returns c =
    let s = c.args.sheet.now in
    let n = s.table.n in
    let t = s.table.entries.now in
    let one = begun (rest_text n t s.cols.bytes.now) c.requires (simp (s.same_rows, s.same_cols) at c.put_label_section-at.ensures) in
    let two = next_put (label_section cols_head n s.cols.bytes.now) (order_section n t) one (simp (s.same_rows, s.same_cols) at c.put_label_section-at-2.ensures) in
    last_put two c.put_order_section-at.ensures
