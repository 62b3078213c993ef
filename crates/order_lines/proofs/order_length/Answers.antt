-- The bytes of an order line. Assumes nothing.
use native.Mathlib.Omega.{arith}
use Prim.Native.Nat.{◌+◌, ◌/◌, ◌%◌, ◌≤◌}
use mathlib.Core.Path.{◌≡◌, sym, ◌∙◌}
use borrow.Author.Tests.{not-true}
use lib.ListN.{length}
use mir.Facts.{to_z-of_z}
use Rattle.lettering.proofs.TextLaws.{number_short}
use Rattle.sheet.specs.Text.{signed}
use mathlib.Core.Bool.{false}
use Rattle.sheet.specs.Sheet.{is_absent}
use Rattle.order_lines.specs.Parts.{number_most, value_most}
use Rattle.order_lines.proofs.OrderLaws.{present_length, row_fits, col_fits}
use Rattle.order_lines.proofs.order_length.Goals as goal
use Rattle.order_lines.proofs.order_length.Goals.{After-digits-2, After-value_length}

-- the lengths of the three fields, as they are measured
numbers : (c : After-digits-2) → (c.digits.result ≤ number_most) × (c.digits-2.result ≤ number_most)
numbers c =
    let i = c.args.p / c.args.n + 1 in
    let j = c.args.p % c.args.n + 1 in (
      omega (arith, number_short i (row_fits c.args.n c.args.p c.requires c.ranges.n)),
      omega (arith, number_short j (col_fits c.args.n c.args.p c.requires c.ranges.n)),
    )

value : (c : After-value_length) → (c.value_length.result ≡ length (signed c.args.v)) × (c.value_length.result ≤ value_most)
value c = simp (to_z-of_z c.ranges.v) at c.value_length.ensures

pub overflow_add-result : goal.overflow_add-result
overflow_add-result c = omega (arith, (numbers c).0, (numbers c).1)

pub overflow_add-result-2 : goal.overflow_add-result-2
overflow_add-result-2 c = let f = numbers (goal.at.overflow_add-result-2 c).After-digits-2 in omega (arith, f.0, f.1, (value c).1)

pub overflow_add-result-3 : goal.overflow_add-result-3
overflow_add-result-3 c = let f = numbers (goal.at.overflow_add-result-3 c).After-digits-2 in omega (arith, f.0, f.1, (value c).1)

pub returns : goal.returns
returns c =
    let f = numbers (goal.at.returns c).After-digits-2 in
    let e : is_absent c.args.v ≡ false = not-true _ (simp (to_z-of_z c.ranges.v) at (sym c.present.ensures ∙ c.if-not-present.false)) in
    (omega (arith, (value c).0, present_length c.args.n c.args.p c.args.v e), omega (arith, f.0, f.1, (value c).1))
