-- A heading with the count of the present places, and the lines in the room that it leaves. Assumes nothing.
use Rattle.lettering.proofs.PutLaws.{begun, last_put}
use Rattle.order_lines.specs.Parts.{order_bytes}
use Rattle.writer.proofs.put_order_section.Goals as goal

pub returns : goal.returns
returns c =
    let t = c.args.table.now in
    last_put (begun (order_bytes t.n 0 t.entries.now) c.requires (simp c.present_count.ensures at c.put_heading-a.ensures)) c.put_orders-b.ensures
