-- Every entry of a table is tested. Assumes nothing.
use Rattle.std.proofs.Common.{ℕ, ◌<◌, pos, get_or}
use Rattle.theory.specs.Table.{Present, Order}
use Rattle.theory.specs.Limits.{order_limit}
use Rattle.orders.specs.Tested.{Tells}
use Rattle.orders.proofs.entries_stand.Given as goal

abbrev pub invariant-loop-v : goal.invariant-loop-v
invariant-loop-v l = Tells l.all ((x : ℕ) → x < l.v-index → Present (get_or l.table x (pos 0)) → Order order_limit (get_or l.table x (pos 0)))
