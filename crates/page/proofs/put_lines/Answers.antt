-- Numbers line by line, each in the room that the lines before it left. Assumes nothing.
use Prim.Native.Nat.{◌<◌}
use lib.ListN.{length}
use native.Mathlib.Omega.{arith}
use Rattle.std.proofs.lemmas.Grind.{common_steps}
use Rattle.lettering.proofs.PutLaws.{puts_none}
use Rattle.sheet.specs.Sheet.{ended_lines}
use Rattle.page.proofs.Joining.{line_next, line_room}
use Rattle.page.proofs.put_lines.Goals as goal

pub loop-value-init : goal.loop-value-init
unfolding ended_lines
loop-value-init g c = record { fits = c.requires; puts = puts_none _ }

pub loop-value-preserved : goal.loop-value-preserved
loop-value-preserved g c =
    let v = c.value-item in
    let l = c.loop-value in
    let inside : l.value-index < length c.args.values.now = omega arith in
    let more = line_next g.T.Figure.shown _ l.value-index v.result inside v.is in
    let room = line_room g.T.Figure.shown _ l.value-index v.result inside v.is in
    grind (arith, common_steps)
