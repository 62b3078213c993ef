-- The whole answer from a canon and the marks of a transversal of its column maxima. Assumes nothing.
use borrow.Author.Rules.{sfits_of}
use mir.Syntax.{w32}
use mir.Facts.{to_z-of_z}
use Rattle.outcome.proofs.Parts.{completed_whole}
use Rattle.outcome.proofs.completed.Goals as goal

pub returns : goal.returns
returns c =
    let s = c.sum_of-sum in
    let f = c.first_stars-first in
    let h = c.heads_of-heads in
    rw (to_z-of_z {w = w32} {z = s.result} (sfits_of s.type_inv))
    (completed_whole _ _ _ f.result _ _ _ h.ensures f.ensures s.ensures c.numbered-stars.ensures)
