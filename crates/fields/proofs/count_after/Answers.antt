-- A count behind the bytes of a heading. Assumes nothing.
use Rattle.std.proofs.Common.{◌≡◌, ◌++◌, None, Some}
use Rattle.std.proofs.lemmas.Slice.Eq.{strip_prefix_is}
use Rattle.std.proofs.lemmas.Bool.Decides.{Decides-eqb}
use Rattle.fields.proofs.CountLaws.{other_start, count_nothing, count_low, count_good}
use Rattle.fields.proofs.count_after.Goals as goal
use Rattle.fields.proofs.count_after.Goals.{In_ok-strip_prefix}

pub returns-in_err-strip_prefix : goal.returns-in_err-strip_prefix
returns-in_err-strip_prefix c =
    rw c.from_residual.ensures
    (other_start _ _ _ _ (strip_prefix_is Decides-eqb c.args.line.now c.args.head.now None c.in_err-strip_prefix.ensures.cases))

-- the line is these bytes and those behind them
parts : (c : In_ok-strip_prefix) → c.args.line.now ≡ c.args.head.now ++ c.in_ok-strip_prefix.field-0.now
parts c = strip_prefix_is Decides-eqb c.args.line.now c.args.head.now (Some c.in_ok-strip_prefix.field-0) c.in_ok-strip_prefix.ensures.cases

pub returns-in_err-count : goal.returns-in_err-count
returns-in_err-count c =
    rw c.from_residual-in_err-count.ensures
    (count_nothing _ _ _ _ (parts (goal.at.returns-in_err-count c).In_ok-strip_prefix) c.in_err-count.ensures)

pub returns-then-count-low : goal.returns-then-count-low
returns-then-count-low c =
    count_low _ _ _ _ (parts (goal.at.returns-then-count-low c).In_ok-strip_prefix) _ c.in_ok-count.ensures c.if-count-low.true

pub returns : goal.returns
returns c = count_good _ _ _ _ (parts (goal.at.returns c).In_ok-strip_prefix) _ c.in_ok-count.ensures c.if-count-low.false
