-- The reader's answer: N, a wrong line, or another refusal. Assumes nothing.
use Rattle.std.proofs.Common.{refl, ap, ◌∙◌}
use Rattle.orders.specs.Refusals.{says, number_of}
use Rattle.telling.specs.Telling.{read, at_line, refused}
use Rattle.telling.proofs.Lines.{line_said, other_said}
use Rattle.telling.proofs.tell_read.Goals as goal
use Rattle.telling.proofs.tell_read.Goals.{in-Line, in_default}

pub returns-in-Ok : goal.returns-in-Ok
returns-in-Ok c = read _ (ap says c.in-Ok.is) refl refl refl

pub returns-after-refusal : goal.returns-after-refusal
returns-after-refusal c = elim c.match-refusal.branch [
  | in-Line w ↦ at_line _ (line_said c.in-Err.is w.in-Line.is) (c.number.ensures ∙ ap number_of w.refusal-is) refl w.line-is
  | in_default w ↦ refused _ (other_said c.in-Err.is (λ k e. w.in_default.not-Line k e)) (c.number.ensures ∙ ap number_of w.refusal-is) refl w.line-is
]
