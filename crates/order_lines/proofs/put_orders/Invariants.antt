-- The order lines so far are written, and the tail of the room is lent on. Assumes nothing.
use lib.ListN.{take}
use Rattle.lettering.specs.Putting.{Puts}
use Rattle.order_lines.specs.Parts.{order_bytes}
use Rattle.order_lines.proofs.put_orders.Given as goal

abbrev pub invariant-loop-p : goal.invariant-loop-p
invariant-loop-p l = Puts (order_bytes l.n 0 (take l.p l.table)) l.initial.out l.out l.at
