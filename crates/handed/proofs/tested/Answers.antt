-- The first three refusals are tested in their order. Assumes nothing.
use mathlib.Core.Logic.{inl, inr}
use Rattle.std.proofs.Common.{rules}
use Rattle.std.proofs.iter.runs.Made.{chains}
use Rattle.orders.specs.Tested.{Tells}
use Rattle.handed.proofs.Basics.{wrong_entry, basic_lengths, basic_entries, basic_sound, AllWanted, each_right, each_wrong}
use Rattle.handed.proofs.tested.Goals as goal
use Rattle.handed.proofs.tested.Goals.{then-table-n-via-then-table-n, then-table-n-via-else-table-n+then-not-all, After-all}

-- what the lengths' test tells
told : (c : After-all) → Tells c.all.result (AllWanted c.args.n c.args.lengths.now)
told c = search (rules, chains)

pub returns-then-table-n : goal.returns-then-table-n
returns-then-table-n c =
    elim c.then-table-n.branch [
      | then-table-n-via-then-table-n w ↦ basic_lengths c.if-n-eq0.false c.if-n-gt-ROWS.false (inl w.if-table-n.true)
      | then-table-n-via-else-table-n+then-not-all w ↦
          let t : Tells w.all.result (AllWanted c.args.n c.args.lengths.now) = search (rules, chains) in
          basic_lengths c.if-n-eq0.false c.if-n-gt-ROWS.false (inr (each_wrong _ _ (t.fails w.if-not-all.true)))
    ]

pub returns-then-not-entries_stand : goal.returns-then-not-entries_stand
returns-then-not-entries_stand c =
    basic_entries c.if-n-eq0.false c.if-n-gt-ROWS.false c.if-table-n.false
    (each_right _ _ ((told (goal.at.returns-then-not-entries_stand c).After-all).holds c.if-not-all.false))
    (wrong_entry _ (c.entries_stand.ensures.fails c.if-not-entries_stand.true))

pub returns : goal.returns
returns c =
    basic_sound c.if-n-eq0.false c.if-n-gt-ROWS.false c.if-table-n.false
    (each_right _ _ ((told (goal.at.returns c).After-all).holds c.if-not-all.false))
    (c.entries_stand.ensures.holds c.if-not-entries_stand.false)
