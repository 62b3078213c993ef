-- The bytes so far stand at the front of the room. Assumes nothing.
use Rattle.std.proofs.Common.{◌≡◌, ◌+◌, ap, ◌∙◌, arith}
use Rattle.std.proofs.Math.Seq.{paste}
use lib.ListN.{get_or, set}
use Rattle.std.proofs.lemmas.List.Edits.{paste_more}
use Rattle.lettering.proofs.put.Goals as goal

pub loop-i-preserved : goal.loop-i-preserved
loop-i-preserved c =
    let a = c.args in
    let i = c.loop-i.i in
    let same : i ≡ 0 + i = omega arith in
    rw c.loop-i.invariant
    (ap (λ x. set (paste a.out.now 0 a.text.now i) x (get_or a.text.now i 0)) same
    ∙ paste_more a.out.now 0 a.text.now i 0 (omega arith) (omega arith))
