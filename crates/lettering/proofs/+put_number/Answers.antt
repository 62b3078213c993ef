-- A number is written after its tens. Assumes nothing.
use native.Mathlib.Omega.{arith}
use Rattle.lettering.proofs.TextLaws.{digits_more}
use Prim.Native.Nat.{◌/◌}
use Rattle.sheet.proofs.Numbers.{text_some}
use Rattle.sheet.specs.Text.{text}
use Rattle.lettering.proofs.PutLaws.{number_one, number_more, puts_length}
use Rattle.lettering.proofs.+put_number.Goals as goal

pub bounds-out-0 : goal.bounds-out-0
bounds-out-0 t c = omega (arith, c.requires, text_some c.args.v)

pub returns-then-v-lt10 : goal.returns-then-v-lt10
returns-then-v-lt10 t c = number_one c.args.v c.args.out.now c.if-v-lt10.true (omega (arith, c.requires, text_some c.args.v))

pub put_number-k-requires : goal.put_number-k-requires
put_number-k-requires t c =
    (omega (arith, c.if-v-lt10.false), omega (arith, c.requires, digits_more c.args.v c.if-v-lt10.false))

pub bounds-out-k : goal.bounds-out-k
bounds-out-k t c =
    let e = c.put_number-k.ensures in
    let more = digits_more c.args.v c.if-v-lt10.false in
    omega (arith, e.is_length, more, c.requires, puts_length (text (c.args.v / 10)) c.args.out.now _ c.put_number-k.result e (omega (arith, more, c.requires)))

pub returns : goal.returns
returns t c = number_more c.args.v c.args.out.now _ c.put_number-k.result c.if-v-lt10.false c.requires c.put_number-k.ensures
