-- A number and one byte more. Assumes nothing.
use native.Mathlib.Omega.{arith}
use mathlib.Core.List.{[], ◌∷◌}
use lib.ListN.{length-append}
use Rattle.sheet.specs.Text.{text}
use Rattle.lettering.proofs.PutLaws.{puts_byte}
use Rattle.lettering.proofs.put_count.Goals as goal

pub returns : goal.returns
returns c = puts_byte _ _ _ _ c.put_number-k.ensures c.args.last (omega (arith, length-append (text c.args.v) (c.args.last ∷ [])))
