-- An order is as long as its digits and its minus. Assumes nothing.
use native.Mathlib.Omega.{arith}
use Prim.Native.Nat.{◌+◌}
use mathlib.Core.Path.{◌≡◌, ap, ◌∙◌}
use lib.ListN.{length}
use mir.Facts.{to_z-of_z}
use Rattle.sheet.specs.Text.{text, signed}
use Rattle.order_lines.proofs.OrderLaws.{signed_length, value_short}
use Rattle.order_lines.proofs.value_length.Goals as goal
use Rattle.order_lines.proofs.value_length.Goals.{After-digits}

told : (c : After-digits) → c.from.result + c.digits.result ≡ length (signed c.args.v)
told c =
    let minus = simp (to_z-of_z c.ranges.v) at c.from.ensures in
    let size = simp (to_z-of_z c.ranges.v) at (c.from-2.ensures ∙ c.unsigned_abs.ensures.value) in
    omega (arith, minus, c.digits.ensures ∙ ap (λ x. length (text x)) size, signed_length c.args.v)

pub overflow_add-result : goal.overflow_add-result
overflow_add-result c = omega (arith, told (goal.at.overflow_add-result c).After-digits, value_short c.args.v c.ranges.v)

pub returns : goal.returns
returns c =
    let e = told (goal.at.returns c).After-digits in (e, omega (arith, e, value_short c.args.v c.ranges.v))
