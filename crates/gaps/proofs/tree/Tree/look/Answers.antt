-- The gaps of the unreached columns, one after the other, with one more row in the tree. Assumes nothing.
use mathlib.Core.Path.{refl}
use native.Mathlib.Omega.{arith}
use borrow.Author.Rules.{sfits_of}
use mir.Syntax.{w16}
use mir.Facts.{to_z-of_z}
use Rattle.theory.specs.Lists.{ints}
use Rattle.gaps.proofs.Passes.{head_fits, look_skip, look_take}
use Rattle.gaps.proofs.tree.Tree.look.Goals as goal
use Rattle.gaps.proofs.tree.Tree.look.Goals.{then-not-self-j, else-not-self-j}

pub loop-j-preserved : goal.loop-j-preserved
loop-j-preserved c =
    let o = c.loop-j.invariant in
    let j = c.loop-j.j in
    let f = c.requires.reckonable j (omega arith) in
    let g = head_fits (ints c.args.raised.now.heads j) f.head in
    elim c.if-not-self-j.branch [
      | then-not-self-j v ↦
          let way = v.nearer-way in
          let p = v.place-order in
          rw (v.self-is, v.least-is)
          (look_take o (omega (arith, c.args.table.now.square.small)) v.if-not-self-j.true way.result.gap way.result.giver v.lesser-least.result
          (rw p.ensures at (simp (to_z-of_z {w = w16} {z = p.result} (sfits_of p.type_inv), to_z-of_z g) at way.ensures))
          v.lesser-least.ensures _ refl refl (refl, refl))
      | else-not-self-j v ↦ rw (v.self-is, v.least-is) (look_skip o v.if-not-self-j.false)
    ]
