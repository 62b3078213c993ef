-- An order and a line feed. Assumes nothing.
use native.Mathlib.Omega.{arith}
use mathlib.Core.List.{[], ◌∷◌}
use lib.ListN.{length, length-append}
use Prim.Native.Nat.{◌<◌}
use mir.Facts.{to_z-of_z}
use Rattle.sheet.specs.Text.{signed, feed}
use Rattle.lettering.proofs.PutLaws.{puts_byte}
use Rattle.lettering.proofs.put_value_line.Goals as goal

pub returns : goal.returns
returns c =
    let room : length (signed c.args.v) < length c.args.out.now = omega (arith, length-append (signed c.args.v) (feed ∷ [])) in
    puts_byte _ _ _ _ (simp (to_z-of_z c.ranges.v) at c.put_value-k.ensures) feed room
