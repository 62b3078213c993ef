-- The lengths of the order lines are added up. Assumes nothing.
use native.Mathlib.Omega.{arith}
use borrow.Author.Rules.{rules}
use mathlib.Core.Path.{refl, ap}
use lib.IntN.{pos}
use lib.ListN.{length, get_or, take, length-append}
use mir.Facts.{to_z-of_z}
use mir.Syntax.{w16}
use mir.Val.{SFits}
use Rattle.sheet.specs.Sheet.{ended_lines, order_lines}
use Rattle.order_lines.specs.Parts.{order_bytes, entry_bytes}
use Rattle.order_lines.proofs.OrderLaws.{order_lines_next}
use Rattle.order_lines.proofs.orders_length.Goals as goal

pub loop-p-init : goal.loop-p-init
unfolding ended_lines order_lines
loop-p-init c = record { is = refl; few = omega arith }

pub loop-p-preserved : goal.loop-p-preserved
loop-p-preserved c =
    let n = c.args.table.now.n in
    let t = c.args.table.now.entries.now in
    let p = c.loop-p.p in
    let v = get_or t p (pos 0) in
    let fits : SFits w16 v = search rules in
    let told = simp (to_z-of_z fits) at c.order_length-sum.ensures in
    record {
      is = omega (arith, told.0, ap length (order_lines_next t p (omega arith) n), length-append (order_bytes n 0 (take p t)) (entry_bytes n p v));
      few = omega (arith, told.1);
    }
