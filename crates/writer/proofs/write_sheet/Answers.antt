-- The writer tests what it is handed, measures the sheet, and then writes it. Assumes nothing.
use native.Mathlib.Omega.{arith}
use mathlib.Core.Logic.{inl, inr}
use Rattle.theory.specs.Limits.{order_limit}
use Rattle.theory.specs.Table.{Entries}
use Rattle.handed.specs.Conditions.{OutOfSize}
use Rattle.handed.proofs.Basics.{in_size, wrong_entry}
use Rattle.writer.specs.Promise.{model, Wanted}
use Rattle.writer.proofs.Refusing.{refuse_size, refuse_length, refuse_entry, refuse_label}
use Rattle.writer.proofs.SheetLaws.{write_refused, write_good}
use Rattle.writer.proofs.write_sheet.Goals as goal
use Rattle.writer.proofs.write_sheet.Goals.{Else-n-gt-ROWS, Else-cols-n, Else-not-entries_stand, Else-not-labels_stand-2}
use Rattle.writer.proofs.write_sheet.Goals.{then-n-eq0-via-then-n-eq0, then-n-eq0-via-else-n-eq0+then-n-gt-ROWS}
use Rattle.writer.proofs.write_sheet.Goals.{then-table-n-via-then-table-n, then-table-n-via-else-table-n+then-rows-n}
use Rattle.writer.proofs.write_sheet.Goals.{then-table-n-via-else-table-n+else-rows-n+then-cols-n}
use Rattle.writer.proofs.write_sheet.Goals.{then-not-labels_stand-via-then-not-labels_stand}
use Rattle.writer.proofs.write_sheet.Goals.{then-not-labels_stand-via-else-not-labels_stand+then-not-labels_stand-2}

-- what is known of what is handed once it has passed the tests of size, of lengths and of entries
size : (c : Else-n-gt-ROWS) → OutOfSize c.args.n → ⊥
size c = in_size c.if-n-eq0.false c.if-n-gt-ROWS.false

lengths : (c : Else-cols-n) → Wanted (model c.args.n c.args.table.now c.args.rows.now c.args.cols.now)
lengths c = record { table_length = c.if-table-n.false; rows_length = c.if-rows-n.false; cols_length = c.if-cols-n.false }

entries : (c : Else-not-entries_stand) → Entries order_limit c.args.table.now
entries c = c.entries_stand.ensures.holds c.if-not-entries_stand.false

pub returns-then-n-eq0 : goal.returns-then-n-eq0
returns-then-n-eq0 c =
    elim c.then-n-eq0.branch [
      | then-n-eq0-via-then-n-eq0 w ↦ refuse_size _ _ (inl w.if-n-eq0.true)
      | then-n-eq0-via-else-n-eq0+then-n-gt-ROWS w ↦ refuse_size _ _ (inr w.if-n-gt-ROWS.true)
    ]

pub returns-then-table-n : goal.returns-then-table-n
returns-then-table-n c =
    let s = size (goal.at.returns-then-table-n c).Else-n-gt-ROWS in
    elim c.then-table-n.branch [
      | then-table-n-via-then-table-n w ↦ refuse_length _ _ s (inl w.if-table-n.true)
      | then-table-n-via-else-table-n+then-rows-n w ↦ refuse_length _ _ s (inr (inl w.if-rows-n.true))
      | then-table-n-via-else-table-n+else-rows-n+then-cols-n w ↦ refuse_length _ _ s (inr (inr (inl w.if-cols-n.true)))
    ]

pub returns-then-not-entries_stand : goal.returns-then-not-entries_stand
returns-then-not-entries_stand c =
    let p = goal.at.returns-then-not-entries_stand c in
    refuse_entry _ _ (size p.Else-n-gt-ROWS) (lengths p.Else-cols-n) (wrong_entry _ (c.entries_stand.ensures.fails c.if-not-entries_stand.true))

pub returns-then-not-labels_stand : goal.returns-then-not-labels_stand
returns-then-not-labels_stand c =
    let p = goal.at.returns-then-not-labels_stand c in
    let refuse = refuse_label _ _ (size p.Else-n-gt-ROWS) (lengths p.Else-cols-n) (entries p.Else-not-entries_stand) in
    elim c.then-not-labels_stand.branch [
      | then-not-labels_stand-via-then-not-labels_stand w ↦ refuse (inl (c.labels_stand.ensures.wrong w.if-not-labels_stand.true))
      | then-not-labels_stand-via-else-not-labels_stand+then-not-labels_stand-2 w ↦
          refuse (inr (w.labels_stand-else-not-labels_stand.ensures.wrong w.if-not-labels_stand-2.true))
    ]

pub returns-then-out-sheet_length : goal.returns-then-out-sheet_length
returns-then-out-sheet_length c =
    let p = goal.at.returns-then-out-sheet_length c in
    write_refused _ _ _ _ (size p.Else-n-gt-ROWS) (lengths p.Else-cols-n) (entries p.Else-not-entries_stand)
    (c.labels_stand.ensures.stand c.if-not-labels_stand.false) (c.labels_stand-else-not-labels_stand.ensures.stand c.if-not-labels_stand-2.false)
    _ _ c.sheet_length.ensures c.if-out-sheet_length.true

pub returns : goal.returns
returns c =
    let p = goal.at.returns c in
    write_good _ _ _ _ (size p.Else-n-gt-ROWS) (lengths p.Else-cols-n) (entries p.Else-not-entries_stand)
    (c.labels_stand.ensures.stand c.if-not-labels_stand.false) (c.labels_stand-else-not-labels_stand.ensures.stand c.if-not-labels_stand-2.false)
    _ _ _ (omega (arith, c.sheet_length.ensures, c.if-out-sheet_length.false)) c.put_sheet.ensures
