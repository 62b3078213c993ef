-- The line of a present place. Assumes nothing.
use native.Mathlib.Omega.{arith}
use borrow.Author.Tests.{not-true}
use mathlib.Core.Path.{refl, sym, ap, ◌∙◌}
use lib.ListN.{length, length-append}
use mir.Facts.{to_z-of_z}
use Rattle.lettering.proofs.PutLaws.{puts_same, puts_tail}
use mathlib.Core.List.{[], ◌∷◌, ◌++◌}
use Prim.Native.Nat.{◌+◌, ◌/◌}
use Rattle.sheet.specs.Text.{text, blank}
use Rattle.order_lines.specs.Parts.{order_end}
use Rattle.order_lines.proofs.OrderLaws.{line_parts}
use Rattle.order_lines.proofs.put_order.Goals as goal

pub returns : goal.returns
returns c =
    let e = line_parts c.args.n c.args.p c.args.v (not-true _ (simp (to_z-of_z c.ranges.v) at (sym c.present.ensures ∙ c.if-not-present.false))) in
    let row = text (c.args.p / c.args.n + 1) ++ blank ∷ [] in
    let end = order_end c.args.n c.args.p c.args.v in
    puts_same _ _ _ _ _ e
    (puts_tail _ _ _ _ c.put_count-a.ensures end _ _ _ refl (simp (to_z-of_z c.ranges.v) at c.put_order_end-b.ensures) (omega (arith, ap length e, length-append row end)))
