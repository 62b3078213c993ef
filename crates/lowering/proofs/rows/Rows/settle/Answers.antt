-- The floors rise, once one more row is settled. Assumes nothing.
use mathlib.Core.Path.{sym, ◌∙◌, ap}
use Prim.Native.Nat.{◌<◌}
use native.Mathlib.Omega.{arith}
use borrow.Author.Rules.{sfits_of}
use mir.Syntax.{w16}
use mir.Val.{SFits}
use lib.ListN.{length}
use Rattle.theory.specs.Lists.{nums}
use Rattle.orders.proofs.Entries.{absent_bits, present_bits}
use Rattle.orders.proofs.Sweeps.{swept_set, swept_keep}
use Rattle.lowering.proofs.Pulls.{pull_told, pulled_absent, pulled_kept, pulled_raised}
use Rattle.lowering.proofs.rows.Rows.settle.Goals as goal
use Rattle.lowering.proofs.rows.Rows.settle.Goals.{then-other+then-self-i, then-other+else-self-i, else-other}

pub loop-i-preserved : goal.loop-i-preserved
loop-i-preserved c =
    let l = c.loop-i in
    let inv = l.invariant in
    let p = c.place-other in
    let s = inv.swept in
    let f : SFits w16 p.result = sfits_of p.type_inv in
    let inside : l.i < length c.args.self.now.floors = omega arith in
    let same = ap (λ x. nums x c.args.k) inv.additions in
    elim c.if-other.branch [
      | then-other+then-self-i w ↦ rw w.self-is record {
        swept = swept_set _ _ _ s inside (pulled_raised _ _ _ _ _ _
            (pull_told f (sfits_of w.place.type_inv) p.ensures w.place.ensures same w.pull-least.ensures)
            (rw p.ensures at (present_bits p.result w.if-other.true))
            (omega (arith, w.if-self-i.true, s.rest l.i (omega arith))));
        additions = inv.additions;
        settled = inv.settled;
      }
      | then-other+else-self-i w ↦ rw w.self-is record {
        swept = swept_keep _ _ s (pulled_kept _ _ _ _ _ _
            (pull_told f (sfits_of w.place.type_inv) p.ensures w.place.ensures same w.pull-least.ensures)
            (omega (arith, w.if-self-i.false, s.rest l.i (omega arith))));
        additions = inv.additions;
        settled = inv.settled;
      }
      | else-other w ↦ rw w.self-is record {
        swept = swept_keep _ _ s (pulled_absent _ _ _ _ _ _ (sym p.ensures ∙ absent_bits _ f w.if-other.false));
        additions = inv.additions;
        settled = inv.settled;
      }
    ]
