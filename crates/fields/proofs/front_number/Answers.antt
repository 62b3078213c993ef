-- The number so far is the value of the digits passed; it ends at the first byte that is no digit. Assumes nothing.
use Rattle.std.proofs.Common.{◌+◌, ◌*◌, arith, sym, ◌∙◌}
use Rattle.fields.proofs.NumberLaws.{SoFar, one_more, leading_zero, above_limit, no_digit, stops_end, stops_byte}
use Rattle.fields.proofs.front_number.Goals as goal
use Rattle.fields.proofs.front_number.Goals.{After-from, else-loop-b-test, then-loop-b-test+then-not-is_ascii_digit}
use Rattle.fields.proofs.front_number.Goals.{else-taken-eq1-via-then-taken-eq1+else-value-eq0, else-taken-eq1-via-else-taken-eq1}

pub returns-then-value-eq0 : goal.returns-then-value-eq0
returns-then-value-eq0 c =
    leading_zero _ _ _ _ c.loop-b.invariant.0 (omega (arith, c.loop-b.invariant.1, c.if-taken-eq1.true)) c.if-value-eq0.true (omega arith)
    c.if-not-is_ascii_digit.ensures.cases

-- the number goes on, where it does not stand behind a leading zero
more : (c : After-from) → SoFar c.args.s.now (c.loop-b.b-index + 1) (c.loop-b.value * 10 + c.from.result)
more c =
    rw c.from.ensures
    (one_more _ _ _ c.loop-b.invariant.0 (omega arith) c.if-not-is_ascii_digit.ensures.cases
    (λ o z.
    elim c.else-taken-eq1.branch [
      | else-taken-eq1-via-then-taken-eq1+else-value-eq0 w ↦ w.if-value-eq0.false z
      | else-taken-eq1-via-else-taken-eq1 w ↦ w.if-taken-eq1.false (omega (arith, c.loop-b.invariant.1, o))
    ]))

pub returns-then-limit-value : goal.returns-then-limit-value
returns-then-limit-value c = above_limit _ _ _ _ (more (goal.at.returns-then-limit-value c).After-from) c.if-limit-value.true

pub loop-b-preserved : goal.loop-b-preserved
loop-b-preserved c = (more (goal.at.loop-b-preserved c).After-from, omega arith, omega arith)

pub returns-then-taken-eq0 : goal.returns-then-taken-eq0
returns-then-taken-eq0 c =
    let i = sym c.loop-b.invariant.1 ∙ c.if-taken-eq0.true in
    elim c.loop-b-test.branch [
      | else-loop-b-test w ↦ no_digit _ _ (stops_end _ 0 (omega arith))
      | then-loop-b-test+then-not-is_ascii_digit w ↦ no_digit _ _
          (stops_byte _ 0 (omega arith) (λ d. grind (arith, rw i at w.if-not-is_ascii_digit.ensures.cases)))
    ]
