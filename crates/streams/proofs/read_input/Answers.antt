-- What a read took from the input stands behind what stood there. Assumes nothing.
use Rattle.std.proofs.Common.{subst, sym, rules, length-take-le}
use Rattle.std.specs.Io.KnownBytes.{Consumes}
use Rattle.std.proofs.KnownBytes.{Consumes-trans}
use Rattle.streams.proofs.Read.{front_more}
use Rattle.streams.proofs.read_input.Goals as goal

pub loop-at-preserved : goal.loop-at-preserved
loop-at-preserved g c =
    let turn = c.loop-at in
    let read = c.in_ok-got in
    let more = front_more turn.at read.got _ c.read.new.buf _ (length-take-le turn.at turn.buffer turn.invariant.inside) read.ensures.bound.0 in
    record {
      inside = search rules;
      taken = subst (Consumes _ _) (sym more) (Consumes-trans _ _ _ _ _ turn.invariant.taken read.ensures.bytes.0);
    }
