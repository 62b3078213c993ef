-- The rows that are not found are tried in the column of row m, one after the other. Assumes nothing.
use native.Mathlib.Omega.{arith}
use Rattle.ways.proofs.Scanning.{scan_next, scan_join, scan_end}
use Rattle.ways.proofs.Ways.scan.Goals as goal
use Rattle.ways.proofs.Ways.scan.Goals.{then-tight, else-tight}

pub loop-place-preserved : goal.loop-place-preserved
loop-place-preserved c =
    let p = c.requires in
    let o = c.loop-place.invariant in
    let told = c.tight-tight.ensures in
    elim c.if-tight.branch [
      | then-tight w ↦ rw (w.self-is, w.found-is)
          (scan_join o (omega arith) p.1 p.2 (p.0.column c.args.m p.1) (told.holds w.if-tight.true) w.join.ensures)
      | else-tight w ↦ rw (w.self-is, w.found-is) (scan_next o (told.fails w.if-tight.false))
    ]

pub returns : goal.returns
returns c = scan_end c.loop-place.invariant (omega arith)
