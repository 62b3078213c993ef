-- One round, row by row. Assumes nothing.
use Prim.Native.Nat.{◌<◌}
use native.Mathlib.Omega.{arith}
use lib.ListN.{length}
use Rattle.theory.specs.Limits.{order_limit}
use Rattle.orders.proofs.Places.{within}
use Rattle.orders.proofs.Stores.{put_nums}
use Rattle.raising.proofs.Steps.{round_under, round_raised, round_kept}
use Rattle.raising.proofs.round.Goals as goal
use Rattle.raising.proofs.round.Goals.{then-additions-i, else-additions-i}

pub wanted-addition-requires : goal.wanted-addition-requires
wanted-addition-requires c =
    let l = c.loop-i in
    let hi : l.i < c.args.table.now.n = omega arith in
    record {
      entries = c.requires.entries;
      under_ceiling = round_under l.invariant (omega arith) c.requires.ample;
      inside = c.requires.transversal.inside l.i hi;
      row = hi;
      present = c.requires.transversal.present l.i hi;
    }

pub loop-i-preserved : goal.loop-i-preserved
loop-i-preserved c =
    let l = c.loop-i in
    let t = c.args.table.now in
    let w = within order_limit t.n t.entries.now t.square.square c.requires.entries in
    let p = c.wanted-addition in
    let hi : l.i < t.n = omega arith in
    let long : l.i < length l.additions = omega arith in
    elim c.if-additions-i.branch [
      | then-additions-i v ↦ rw (v.additions-is, v.ended-is)
          (round_raised order_limit _ _ _ _ _ c.requires.transversal w hi p.result p.ensures l.invariant
          (put_nums l.additions _ _ long) v.if-additions-i.true)
      | else-additions-i v ↦ rw (v.additions-is, v.ended-is)
          (round_kept order_limit _ _ _ _ _ c.requires.transversal w hi p.result p.ensures l.invariant v.if-additions-i.false)
    ]
