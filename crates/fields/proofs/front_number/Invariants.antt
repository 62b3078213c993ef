-- The number so far is the value of the digits passed. Assumes nothing.
use Rattle.std.proofs.Common.{◌≡◌, ◌≤◌}
use Rattle.fields.proofs.NumberLaws.{SoFar}
use Rattle.fields.proofs.front_number.Given as goal

abbrev pub invariant-loop-b : goal.invariant-loop-b
invariant-loop-b l = SoFar l.s l.b-index l.value × (l.taken ≡ l.b-index) × (l.value ≤ l.limit)
