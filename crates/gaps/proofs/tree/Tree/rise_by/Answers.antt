-- The rows of the tree and the reached columns are raised, one after the other, and the gaps narrowed. Assumes nothing.
use mathlib.Core.Path.{refl}
use native.Mathlib.Omega.{arith}
use borrow.Author.Rules.{sfits_of}
use mir.Syntax.{w32}
use mir.Facts.{to_z-of_z}
use Rattle.theory.specs.Lists.{ints}
use Rattle.gaps.proofs.Passes.{head_fits, rise_head, rise_step}
use Rattle.gaps.proofs.tree.Tree.rise_by.Goals as goal

pub loop-i-preserved : goal.loop-i-preserved
loop-i-preserved c =
    let v = c.loop-i in
    let o = v.invariant in
    let l = c.lift in
    let f = head_fits (ints v.raised.heads v.i) (rise_head o c.requires (omega arith)) in
    let s = sfits_of {w = w32} {z = l.result} l.type_inv in
    rise_step o (omega (arith, c.requires.small)) c.share.ensures.0 (rw c.share-in-loop-i.ensures.0 at (simp (to_z-of_z f) at l.ensures))
    c.narrowed.ensures _ _ refl (simp (to_z-of_z s)) refl (refl, refl, refl)
