-- The head of a column, and what row i lacks of it. Assumes nothing.
use borrow.Author.Rules.{rules, sfits_of}
use mir.Syntax.{w16, w32}
use mir.Val.{SFits}
use mir.Facts.{to_z-of_z}
use Rattle.theory.proofs.Ties.{column_head}
use Rattle.raising.proofs.wanted.Goals as goal

pub returns : goal.returns
returns c =
    let p = c.place-own in
    let f : SFits w32 c.head-top.result.head = search rules in
    let e = rw p.ensures at (simp (to_z-of_z {w = w16} {z = p.result} (sfits_of p.type_inv), to_z-of_z f) at c.excess.ensures) in
    rw e (column_head _ _ c.head-top.ensures c.requires.row c.requires.present)
