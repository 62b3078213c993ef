-- The sheet is read into zeros, and the front of the table is printed. Assumes nothing.
use native.Mathlib.Omega.{arith}
use Prim.Native.Nat.{◌*◌}
use mathlib.Core.Path.{refl}
use lib.IntN.{pos}
use lib.ListN.{replicate}
use Rattle.theory.specs.Limits.{row_limit}
use Rattle.sheet.specs.Labels.{width}
use Rattle.reader.specs.Promise.{Lent, lent, Wanted}
use Rattle.printing.proofs.Fits.{answers_fit}
use Rattle.printing.proofs.Saying.{sheet_refused, sheet_taken, sheet_table}
use Rattle.printing.proofs.put_answer.Goals as goal

-- what is lent to the reader, and has the wanted lengths
abbrev zeros : Lent
zeros = lent (replicate (row_limit * row_limit) (pos 0)) (replicate (width * row_limit) 0) (replicate (width * row_limit) 0)

wanted : Wanted zeros
wanted = record { table_length = refl; rows_length = refl; cols_length = refl }

pub put_refusal-requires : goal.put_refusal-requires
put_refusal-requires c =
    omega (arith, answers_fit c.args.sheet.now _ (sheet_refused wanted c.read_sheet-read.ensures _ c.in-Err.is), c.requires)

pub returns-in-Ok : goal.returns-in-Ok
returns-in-Ok c = sheet_table (sheet_taken wanted c.read_sheet-read.ensures _ c.in-Ok.is) c.put_table.ensures

pub returns-in-Err : goal.returns-in-Err
returns-in-Err c =
    record { said = _; holds = sheet_refused wanted c.read_sheet-read.ensures _ c.in-Err.is; puts = c.put_refusal.ensures }
