-- A place is tested for a column maximum. Assumes nothing.
use borrow.Author.Rules.{rules, sfits_of}
use mir.Syntax.{w16, w32}
use mir.Val.{SFits}
use mir.Facts.{to_z-of_z}
use Rattle.theory.specs.Lists.{ints}
use Rattle.ways.proofs.Tightness.{tight_maximum}
use Rattle.ways.proofs.raised.Raised.tight.Goals as goal

pub returns : goal.returns
returns c =
    let p = c.place-order in
    let a = c.args in
    let h : SFits w32 (ints a.self.now.heads.now a.j) = search rules in
    tight_maximum a.self.now.heads_stand a.i a.j c.requires.0 c.requires.1
    (rw p.ensures at (simp (to_z-of_z {w = w16} {z = p.result} (sfits_of p.type_inv), to_z-of_z h) at c.tight.ensures))
