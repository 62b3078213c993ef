-- Label k is compared with those before it. Assumes nothing.
use Rattle.std.proofs.Common.{◌≢◌, ℕ, ◌<◌}
use Rattle.sheet.specs.Labels.{slot}
use Rattle.sheet.proofs.repeated.Given as goal

abbrev pub invariant-loop-i : goal.invariant-loop-i
invariant-loop-i l = (j : ℕ) → j < l.i → slot l.labels j ≢ slot l.labels l.k
