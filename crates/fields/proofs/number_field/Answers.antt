-- A number from 1 on with a blank after it. Assumes nothing.
use Rattle.std.proofs.Common.{arith}
use Rattle.std.proofs.lemmas.Grind.{common_steps}
use Rattle.std.proofs.lemmas.Option.{gets}
use Rattle.fields.proofs.NumberLaws.{no_field, field_zero, field_other}
use Rattle.fields.proofs.number_field.Goals as goal
use Rattle.fields.proofs.number_field.Goals.{then-value-eq0-via-then-value-eq0, then-value-eq0-via-else-value-eq0+then-ne}

pub returns-in_err-value : goal.returns-in_err-value
returns-in_err-value c = rw c.from_residual.ensures (no_field _ _ c.in_err-value.ensures)

pub returns-then-value-eq0 : goal.returns-then-value-eq0
returns-then-value-eq0 c =
    let f = c.in_ok-value.ensures in
    elim c.then-value-eq0.branch [
      | then-value-eq0-via-then-value-eq0 w ↦ field_zero f w.if-value-eq0.true
      | then-value-eq0-via-else-value-eq0+then-ne w ↦
          field_other f (λ p q. grind (arith, common_steps, gets))
    ]
