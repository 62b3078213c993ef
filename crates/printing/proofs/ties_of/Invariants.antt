-- The columns are counted one after the other. Assumes nothing.
use Rattle.std.proofs.Common.{ℕ, ◌<◌}
use Rattle.theory.specs.Lists.{nums}
use Rattle.theory.specs.Table.{entry}
use Rattle.theory.specs.Canon.{Holders}
use Rattle.orders.specs.Held.{Long}
use Rattle.printing.proofs.ties_of.Given as goal

abbrev pub invariant-loop-j : goal.invariant-loop-j
invariant-loop-j l =
    record {
      counted : (j : ℕ) → j < l.j → Holders l.table.n (entry l.table.entries.now l.table.n) (nums l.additions) j (nums l.ties j);
      long : Long l.ties;
    }
