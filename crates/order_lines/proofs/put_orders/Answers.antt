-- The order lines so far are written, and the tail of the room is lent on. Assumes nothing.
use native.Mathlib.Omega.{arith}
use Prim.Native.Nat.{◌<◌}
use borrow.Author.Rules.{rules}
use mathlib.Core.Path.{refl, sym}
use lib.IntN.{pos}
use lib.ListN.{length, get_or}
use mir.Facts.{to_z-of_z}
use mir.Syntax.{w16}
use mir.Val.{SFits}
use Rattle.lettering.proofs.PutLaws.{puts_none, puts_same, puts_tail, left_room}
use Rattle.sheet.specs.Sheet.{ended_lines, order_lines}
use Rattle.order_lines.specs.Parts.{entry_bytes}
use Rattle.order_lines.proofs.OrderLaws.{order_lines_next, entry_room}
use Rattle.order_lines.proofs.put_orders.Goals as goal

pub loop-p-init : goal.loop-p-init
unfolding ended_lines order_lines
loop-p-init c = puts_none c.args.out.now

pub put_order-at-requires : goal.put_order-at-requires
put_order-at-requires c =
    let l = c.loop-p in
    let v = get_or c.args.table.now l.p (pos 0) in
    let inside : l.p < length c.args.table.now = omega arith in
    let fits : SFits w16 v = search rules in
    rw (to_z-of_z fits)
    (omega (arith, c.requires.0), left_room _ _ _ _ l.invariant (entry_bytes c.args.n l.p v) _ refl (omega (arith, c.requires.1, entry_room c.args.n c.args.table.now l.p inside)))

pub loop-p-preserved : goal.loop-p-preserved
loop-p-preserved c =
    let l = c.loop-p in
    let v = get_or c.args.table.now l.p (pos 0) in
    let inside : l.p < length c.args.table.now = omega arith in
    let fits : SFits w16 v = search rules in
    puts_same _ _ _ _ _ (sym (order_lines_next c.args.table.now l.p inside c.args.n))
    (puts_tail _ _ _ _ l.invariant (entry_bytes c.args.n l.p v) _ _ _ refl (simp (to_z-of_z fits) at c.put_order-at.ensures) (omega (arith, c.requires.1, entry_room c.args.n c.args.table.now l.p inside)))
