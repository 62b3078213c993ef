-- The way back from an unmarked column to row s. Assumes nothing.
use Prim.Native.Nat.{ℕ}
use native.Mathlib.Omega.{arith}
use lib.IntN.{ℤ}
use lib.ListN.{set}
use Rattle.theory.specs.Lists.{nums}
use Rattle.growth.specs.Growing.{WayBack}
use Rattle.growth.proofs.Flipping.{Open, before, open_step, open_still, open_end, same_fewer}
use Rattle.orders.proofs.Stores.{put_nums}
use Rattle.growth.proofs.sapling.Sapling.flip.Goals as goal

pub bounds-givers-next : goal.bounds-givers-next
bounds-givers-next c =
    let p = c.requires in
    let o = c.loop-i.invariant.3 p.n p.a p.l p.h p.way in
    omega (arith, (o.column c.loop-i.i (before p.way o c.loop-i-test.true)).0, p.way.small)

pub loop-i-smaller : goal.loop-i-smaller
loop-i-smaller c =
    let p = c.requires in
    let v = c.loop-i in
    let o = v.invariant.3 p.n p.a p.l p.h p.way in
    same_fewer (nums c.args.self.now.marks.rows) (omega (arith, o.inside, p.way.small))
    (put_nums v.self.marks.rows v.j v.i (omega (arith, v.self.marked.0, o.inside, p.way.small))) o.unflipped o.fresh

pub offset_bounds-givers-next : goal.offset_bounds-givers-next
offset_bounds-givers-next c =
    let p = c.requires in
    let o = c.loop-i.invariant.3 p.n p.a p.l p.h p.way in
    omega (arith, (o.column c.loop-i.i (before p.way o c.loop-i-test.true)).0, p.way.small)

pub loop-i-preserved : goal.loop-i-preserved
loop-i-preserved c =
    let p = c.requires in
    let o = step p.n p.a p.l p.h p.way in
    (omega (arith, o.row_inside, p.way.small), omega (arith, o.inside, p.way.small), c.loop-i.invariant.2, step)
  where
    step : (n : ℕ) (a : ℕ → ℕ → ℤ) (l : ℕ → ℕ) (h : ℕ → ℤ)
        (w : WayBack n a c.args.s l h (nums c.args.self.now.marks.rows) (nums c.args.self.now.marks.columns) (nums c.args.givers.now) c.args.end)
        → Open w (nums (set c.loop-i.self.marks.rows c.loop-i.j c.loop-i.i)) (nums (set c.loop-i.self.marks.columns c.loop-i.i c.loop-i.j))
        (nums c.loop-i.self.marks.columns c.loop-i.i) (nums c.args.givers.now (nums c.loop-i.self.marks.columns c.loop-i.i))
    step n a l h w =
        let v = c.loop-i in
        let o = v.invariant.3 n a l h w in
        open_step w o c.loop-i-test.true (put_nums v.self.marks.rows v.j v.i (omega (arith, v.self.marked.0, v.invariant.1)))
        (put_nums v.self.marks.columns v.i v.j (omega (arith, v.self.marked.1, v.invariant.0)))

pub returns : goal.returns
returns c =
    let v = c.loop-i in
    let s = c.args.s in (
      record {
        marking = λ n a l h w.
            let o = v.invariant.3 n a l h w in
            open_end w o c.loop-i-test.false (put_nums v.self.marks.rows v.j s (omega (arith, v.self.marked.0, v.invariant.1)))
            (put_nums v.self.marks.columns s v.j (omega (arith, v.self.marked.1, w.inserted, w.small)));
        unmarked = λ n a l h w j hj.
            let o = v.invariant.3 n a l h w in
            open_still w o (put_nums v.self.marks.rows v.j s (omega (arith, v.self.marked.0, v.invariant.1))) j;
      },
      v.invariant.2,
    )
