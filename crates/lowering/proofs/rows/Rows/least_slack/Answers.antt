-- The unsettled row with the least slack. Assumes nothing.
use native.Mathlib.Omega.{arith}
use Rattle.std.proofs.Common.{rules}
use Rattle.lowering.proofs.Slack.{slack_taken, slack_kept, slack_settled}
use Rattle.lowering.proofs.rows.Rows.least_slack.Goals as goal
use Rattle.lowering.proofs.rows.Rows.least_slack.Goals.{then-not-self-i+then-is_none_or, then-not-self-i+else-is_none_or, else-not-self-i}

pub loop-i-preserved : goal.loop-i-preserved
loop-i-preserved c =
    let s = c.loop-i.invariant in
    elim c.if-not-self-i.branch [
      | then-not-self-i+then-is_none_or w ↦ rw w.best-is (slack_taken s w.if-not-self-i.true (omega arith) (λ x e. search rules))
      | then-not-self-i+else-is_none_or w ↦ rw w.best-is (slack_kept s (λ e. search rules) (λ x e. search rules))
      | else-not-self-i w ↦ rw w.best-is (slack_settled s w.if-not-self-i.false)
    ]
