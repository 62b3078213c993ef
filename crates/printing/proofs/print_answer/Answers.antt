-- The page is copied out where it fits. Assumes nothing.
use native.Mathlib.Omega.{arith}
use Rattle.printing.proofs.Copying.{not_fitting, copied}
use Rattle.printing.proofs.print_answer.Goals as goal

pub returns-then-out-k : goal.returns-then-out-k
returns-then-out-k c = not_fitting c.put_answer-k.ensures _ c.if-out-k.true

pub returns : goal.returns
returns c = copied c.put_answer-k.ensures (omega (arith, c.if-out-k.false)) c.put.ensures
