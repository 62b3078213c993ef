-- The present places so far are counted. Assumes nothing.
use Rattle.std.proofs.Common.{◌≡◌, ◌≤◌, take}
use Rattle.sheet.specs.Sheet.{present_count}
use Rattle.order_lines.proofs.present_count.Given as goal

abbrev pub invariant-loop-v : goal.invariant-loop-v
invariant-loop-v l = record { counted : l.count ≡ present_count (take l.v-index l.table); low : l.count ≤ l.v-index }
