-- Every entry of a table is tested for a negative order. Assumes nothing.
use Rattle.std.proofs.Common.{ℕ, ◌<◌, pos, get_or}
use Rattle.theory.specs.Table.{Negative}
use Rattle.orders.specs.Tested.{Tells}
use Rattle.index_figure.proofs.some_negative.Given as goal

abbrev pub invariant-loop-v : goal.invariant-loop-v
invariant-loop-v l = Tells l.some ((x : ℕ) × (x < l.v-index) × Negative (get_or l.table x (pos 0)))
