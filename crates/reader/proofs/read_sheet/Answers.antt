-- The reader tests lengths, walks the sheet, and copies out what was kept. Assumes nothing.
use Rattle.std.proofs.Common.{inl, inr}
use Rattle.std.proofs.lemmas.Result.{err_from_is_err_and}
use Rattle.reader.specs.Promise.{lent, Wanted}
use Rattle.reader.proofs.WalkLaws.{holds_nothing}
use Rattle.reader.proofs.PromiseLaws.{wanted, refuse_length, refuse_long, refuse_line, read_good}
use Rattle.reader.proofs.read_sheet.Goals as goal
use Rattle.reader.proofs.read_sheet.Goals.{Else-cols-ne-LABELS}
use Rattle.reader.proofs.read_sheet.Goals.{then-table-ne-PLACES-via-then-table-ne-PLACES}
use Rattle.reader.proofs.read_sheet.Goals.{then-table-ne-PLACES-via-else-table-ne-PLACES+then-rows-ne-LABELS}
use Rattle.reader.proofs.read_sheet.Goals.{then-table-ne-PLACES-via-else-table-ne-PLACES+else-rows-ne-LABELS+then-cols-ne-LABELS}

pub returns-then-table-ne-PLACES : goal.returns-then-table-ne-PLACES
returns-then-table-ne-PLACES c =
    refuse_length _ _
    (elim c.then-table-ne-PLACES.branch [
      | then-table-ne-PLACES-via-then-table-ne-PLACES w ↦ inl w.if-table-ne-PLACES.true
      | then-table-ne-PLACES-via-else-table-ne-PLACES+then-rows-ne-LABELS w ↦ inr (inl w.if-rows-ne-LABELS.true)
      | then-table-ne-PLACES-via-else-table-ne-PLACES+else-rows-ne-LABELS+then-cols-ne-LABELS w ↦ inr (inr (inl w.if-cols-ne-LABELS.true))
    ])

-- what is lent is of the wanted length
lengths : (c : Else-cols-ne-LABELS) → Wanted (lent c.args.table.now c.args.rows.now c.args.cols.now)
lengths c = wanted _ _ _ c.if-table-ne-PLACES.false c.if-rows-ne-LABELS.false c.if-cols-ne-LABELS.false

pub returns-then-sheet-gt-SHEET : goal.returns-then-sheet-gt-SHEET
returns-then-sheet-gt-SHEET c =
    refuse_long _ _ (lengths (goal.at.returns-then-sheet-gt-SHEET c).Else-cols-ne-LABELS) c.if-sheet-gt-SHEET.true

pub walk-requires : goal.walk-requires
walk-requires c = rw (c.fill.ensures.after (λ y e. e)) holds_nothing

pub returns-in_err-n : goal.returns-in_err-n
returns-in_err-n c =
    let p = err_from_is_err_and c.from_residual.result c.from_residual.ensures.1 in
    let w = c.in_err-n.ensures in
    rw (p.1, p.2, w.1)
    (refuse_line _ _ (lengths (goal.at.returns-in_err-n c).Else-cols-ne-LABELS) c.if-sheet-gt-SHEET.false w.0 w.2)

pub returns : goal.returns
returns c =
    read_good c.in_ok-n.ensures _ (lengths (goal.at.returns c).Else-cols-ne-LABELS) c.if-sheet-gt-SHEET.false _ _ _
    c.copy_from_slice.ensures.after c.copy_from_slice-2.ensures.after c.copy_from_slice-3.ensures.after
