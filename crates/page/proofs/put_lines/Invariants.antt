-- Numbers line by line, each in the room that the lines before it left. Assumes nothing.
use Prim.Native.Nat.{◌≤◌}
use lib.ListN.{length, take}
use Rattle.lettering.specs.Putting.{Puts}
use Rattle.page.specs.Parts.{lines}
use Rattle.page.proofs.put_lines.Given as goal

abbrev pub invariant-loop-value : goal.invariant-loop-value
invariant-loop-value g l = record {
  fits : length (lines g.T.Figure.shown l.values) ≤ length l.initial.out;
  puts : Puts (lines g.T.Figure.shown (take l.value-index l.values)) l.initial.out l.out l.at;
}
