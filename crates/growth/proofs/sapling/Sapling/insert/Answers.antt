-- Row s takes an unmarked column in which it is tight, or the tree reaches one, and the marks are flipped along the way back. Assumes
-- nothing.
use mathlib.Core.Bool.{false}
use Prim.Native.Nat.{ℕ}
use native.Mathlib.Omega.{arith}
use lib.ListN.{get_or-replicate}
use Rattle.theory.specs.Limits.{row_limit}
use Rattle.gaps.specs.Steps.{no_gap}
use Rattle.orders.proofs.Stores.{put_nums}
use Rattle.growth.proofs.Inserting.{taken, inserted}
use Rattle.growth.proofs.sapling.Sapling.insert.Goals as goal

pub returns-in-Some : goal.returns-in-Some
returns-in-Some c start r =
    let g = c.args.self.now in
    let s = c.args.s in
    let j = c.in-Some.column in
    let f = c.in-Some.ensures in
    taken r c.requires.inside f.0 f.1 (put_nums g.marks.rows j s (omega (arith, g.marked.0, f.0, r.square.small)))
    (put_nums g.marks.columns s j (omega (arith, g.marked.1, c.requires.inside, r.square.small)))

pub reach-requires-clause-bare : goal.reach-requires-clause-bare
reach-requires-clause-bare c =
    record {
      rows = λ i hi. get_or-replicate row_limit i false false hi;
      reached = λ j hj. get_or-replicate row_limit j false false hj;
      gaps = λ j hj. get_or-replicate {A = ℕ} row_limit j no_gap 0 hj;
    }

pub flip-requires : goal.flip-requires
flip-requires c =
    let p = c.requires.ready in
    record { n = _; a = _; l = _; h = _; way = (c.in_ok-end.ensures p.start p.ready).way }

pub returns : goal.returns
returns c start r = rw c.flip.ensures.1 (inserted r (c.in_ok-end.ensures start r) c.flip.ensures.0)
