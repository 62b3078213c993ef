-- Head, lowest row and count of a column, one row after the other. Assumes nothing.
use Rattle.std.proofs.Common.{◌≡◌, arith, add-one}
use borrow.Author.Rules.{sfits_of}
use mir.Syntax.{w16, w32}
use mir.Facts.{to_z-of_z}
use Rattle.theory.proofs.Signed.{signed}
use Rattle.orders.proofs.Places.{sought_few, sought_more, top_found}
use Rattle.orders.proofs.table.Table.head.Goals as goal

pub counted-count-requires : goal.counted-count-requires
counted-count-requires c =
    let few = sought_few c.loop-i.invariant in
    (omega (arith, few, c.args.self.now.square.small), c.requires.1 _ (omega arith))

pub loop-i-preserved : goal.loop-i-preserved
loop-i-preserved c =
    let p = c.place-order in
    let h = c.higher-next in
    let o = c.loop-i in
    let f = sfits_of {w = w16} {z = p.result} p.type_inv in
    let g = sfits_of {w = w32} {z = h.result} h.type_inv in
    rw (to_z-of_z g, add-one o.i)
    (sought_more _ _ _ _ _ (rw p.ensures at f) o.invariant (rw p.ensures at (simp (to_z-of_z f) at h.ensures))
    (simp (to_z-of_z g) at c.lowest-row.ensures) (rw p.ensures at (simp (to_z-of_z f) at c.counted-count.ensures)))

-- past the loop all rows are taken in
pub returns : goal.returns
returns c =
    let e : c.loop-i.i ≡ c.args.self.now.n = omega arith in
    (top_found (rw e at c.loop-i.invariant) (omega (arith, signed, c.if-height.false))).1
