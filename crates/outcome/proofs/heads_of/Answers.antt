-- The heads, read off the marks one column after the other. Assumes nothing.
use Prim.Native.Nat.{◌<◌}
use native.Mathlib.Omega.{arith}
use borrow.Author.Rules.{sfits_of}
use mir.Syntax.{w16, w32}
use mir.Facts.{to_z-of_z}
use Rattle.orders.proofs.Sweeps.{swept_set}
use Rattle.outcome.proofs.Parts.{head_marked}
use Rattle.outcome.proofs.heads_of.Goals as goal

pub loop-j-preserved : goal.loop-j-preserved
loop-j-preserved c =
    let l = c.loop-j in
    let p = c.place in
    let hj : l.j < c.args.table.now.n = omega arith in
    swept_set _ _ _ l.invariant (omega (arith, c.args.table.now.square.small))
    (rw (to_z-of_z {w = w32} {z = c.raise.result} (sfits_of c.raise.type_inv))
    (head_marked c.requires.1 hj (rw p.ensures at (simp (to_z-of_z {w = w16} {z = p.result} (sfits_of p.type_inv)) at c.raise.ensures))))
