-- The lengths of the order lines are added up. Assumes nothing.
use Prim.Native.Nat.{◌*◌, ◌≤◌}
use mathlib.Core.Path.{◌≡◌}
use lib.ListN.{length, take}
use Rattle.order_lines.specs.Parts.{order_bytes, line_most}
use Rattle.order_lines.proofs.orders_length.Given as goal

abbrev pub invariant-loop-p : goal.invariant-loop-p
invariant-loop-p l = record {
  is : l.sum ≡ length (order_bytes l.table.n 0 (take l.p l.table.entries.now));
  few : l.sum ≤ line_most * l.p;
}
