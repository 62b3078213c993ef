-- Row i takes the first column that the rows before it leave to it, and the marks are shifted along the way. Assumes nothing.
use Rattle.theory.specs.Lists.{nums}
use Rattle.stars.proofs.Moving.{ShiftingIn}
use Rattle.stars.proofs.shift.Given as goal

abbrev pub invariant-loop-m : goal.invariant-loop-m
invariant-loop-m l = ShiftingIn l.raised l.i l.j l.initial.marks l.ways.step l.marks l.k l.m

abbrev pub decreases-loop-m : goal.decreases-loop-m
decreases-loop-m l = nums l.ways.step l.m
