-- The yes-or-no, as 1 or 0. Assumes nothing.
use Rattle.std.proofs.Common.{◌≡◌, Bool, true, false, refl}
use borrow.Author.Rules.{rules}
use mir.Val.{bool_byte}
use Rattle.telling.specs.Telling.{bit}
use Rattle.telling.proofs.Bits.{told_bit}
use Rattle.telling.proofs.tell_verdict.Goals as goal

-- the byte of a bool
as_bit : (b : Bool) → bool_byte b ≡ bit b
as_bit true = refl
as_bit false = refl

pub returns : goal.returns
returns c = told_bit _ c.args.verdict c.map.result c.map.ensures.cases (λ b x e. search (rules, as_bit b)) c.tell.ensures
