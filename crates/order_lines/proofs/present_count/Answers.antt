-- The present places so far are counted. Assumes nothing.
use mathlib.Core.Path.{◌≡◌, refl, ap, ◌∙◌}
use mathlib.Core.Bool.{Bool, true, false, cond, not}
use native.Mathlib.Omega.{arith}
use Prim.Native.Nat.{◌≤◌}
use borrow.Author.Rules.{rules}
use lib.IntN.{pos}
use lib.ListN.{length, get_or, take}
use lib.Seq.{take-length}
use mir.Syntax.{w16}
use mir.Val.{SFits, bool_byte}
use mir.Facts.{to_z-of_z}
use Rattle.sheet.specs.Sheet.{is_absent, present_count}
use Rattle.order_lines.proofs.OrderLaws.{count_next}
use Rattle.order_lines.proofs.present_count.Goals as goal

-- a place that is present counts 1, an absent one 0
counts : (absent : Bool) → bool_byte (not absent) ≡ cond absent 0 1
counts true = refl
counts false = refl

at_most : (absent : Bool) → cond absent 0 1 ≤ 1
at_most true = omega arith
at_most false = omega arith

pub loop-v-init : goal.loop-v-init
unfolding present_count
loop-v-init c = record { counted = refl; low = omega arith }

pub loop-v-preserved : goal.loop-v-preserved
loop-v-preserved c =
    let t = c.args.table.now in
    let k = c.loop-v.v-index in
    let f : SFits w16 (get_or t k (pos 0)) = search rules in
    let one : c.from-count.result ≡ cond (is_absent (get_or t k (pos 0))) 0 1 =
    c.from-count.ensures ∙ ap bool_byte (simp (to_z-of_z f) at c.present.ensures) ∙ counts (is_absent (get_or t k (pos 0))) in
    record {
      counted = omega (arith, one, count_next t k (omega arith), c.loop-v.invariant.counted);
      low = omega (arith, one, at_most (is_absent (get_or t k (pos 0))), c.loop-v.invariant.low);
    }

pub returns : goal.returns
returns c =
    let t = c.args.table.now in
    let e : c.loop-v.v-index ≡ length t = omega arith in
    c.loop-v.invariant.counted ∙ ap present_count (ap (λ i. take i t) e ∙ take-length t)
