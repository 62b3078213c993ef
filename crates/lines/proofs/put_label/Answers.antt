-- The bytes of a label so far stand in its place. Assumes nothing.
use Rattle.std.proofs.Common.{◌*◌, arith}
use lib.ListN.{length-set}
use Rattle.std.proofs.lemmas.List.Edits.{paste_more}
use Rattle.sheet.specs.Labels.{width}
use Rattle.lines.proofs.put_label.Goals as goal

pub loop-i-preserved : goal.loop-i-preserved
loop-i-preserved c =
    let a = c.args in (
      rw c.loop-i.invariant.0 (paste_more a.labels.now (width * a.k) a.line.now c.loop-i.i 0 (omega arith) (omega arith)),
      simp length-set c.loop-i.invariant.1,
    )
