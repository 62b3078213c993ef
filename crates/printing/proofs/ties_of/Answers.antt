-- The columns are counted one after the other. Assumes nothing.
use Rattle.std.proofs.Common.{◌≡◌, ◌∙◌, arith}
use lib.ListN.{length-set}
use Rattle.theory.specs.Table.{entry}
use Rattle.theory.specs.Lists.{nums}
use Rattle.theory.specs.Canon.{Holders}
use Rattle.theory.proofs.Ties.{head_holders}
use Rattle.orders.proofs.Stores.{after, put_nums}
use Rattle.printing.proofs.ties_of.Goals as goal

pub loop-j-preserved : goal.loop-j-preserved
loop-j-preserved c =
    let t = c.args.table.now in
    let top = c.head-top in
    let o = c.loop-j in
    record {
      counted = λ j hj.
          after (λ x y. Holders t.n (entry t.entries.now t.n) (nums c.args.additions.now) x y)
          (put_nums o.ties o.j top.result.count (omega (arith, t.square.small, o.invariant.long))) j
          (λ e. head_holders t.n (entry t.entries.now t.n) top.ensures) (λ ne. o.invariant.counted j (omega arith));
      long = length-set o.ties o.j top.result.count ∙ o.invariant.long;
    }

pub returns : goal.returns
returns c = let e : c.loop-j.j ≡ c.args.table.now.n = omega arith in rw e at c.loop-j.invariant.counted
