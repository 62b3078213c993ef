-- The rows that are not found are tried in the column of row m, one after the other. Assumes nothing.
use Rattle.ways.proofs.Scanning.{ScannedTo}
use Rattle.ways.proofs.Ways.scan.Given as goal

abbrev pub invariant-loop-place : goal.invariant-loop-place
invariant-loop-place l = ScannedTo l.raised l.i l.columns l.m l.place l.initial.self (record l.self { count = l.found })
