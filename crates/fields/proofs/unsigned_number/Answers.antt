-- A number that takes the whole text. Assumes nothing.
use Rattle.fields.proofs.NumberLaws.{no_number, bytes_behind, all_of_it}
use Rattle.fields.proofs.unsigned_number.Goals as goal

pub returns-in_err-value : goal.returns-in_err-value
returns-in_err-value c = rw c.from_residual.ensures (no_number _ _ c.in_err-value.ensures)

pub returns-then-taken-s : goal.returns-then-taken-s
returns-then-taken-s c = bytes_behind c.in_ok-value.ensures c.if-taken-s.true

pub returns : goal.returns
returns c = all_of_it c.in_ok-value.ensures c.if-taken-s.false
