-- The walk over sections and lines, each handed the rest of the sheet. Assumes nothing.
use Rattle.std.proofs.Common.{◌≡◌, ◌≤◌, length, refl, sym, arith}
use borrow.Author.Tests.{eqb-true, eqb-false}
use Rattle.sheet.proofs.Bytes.{rest as from}
use Rattle.reader.proofs.WalkLaws.{heading_wrong, heading_passed, line_due, line_wrong, line_passed, sheet_ends, sheet_goes_on}
use Rattle.reader.proofs.walk.Goals as goal
use Rattle.reader.proofs.walk.Goals.{In-Some-keep}

pub loop-k-init : goal.loop-k-init
loop-k-init c =
    let u = c.sheet in
    (rw (from u.rest.now _) (heading_passed u.invariant.0 _ c.in-Some.ensures), u.invariant.1)

-- the line that was kept takes no more bytes than there are
inside : (c : In-Some-keep) → c.in-Some-keep.taken ≤ length c.loop-k.rest.now
inside c =
    let u = c.loop-k.invariant.0 in
    (c.in-Some-keep.ensures u.st _ u.held (line_due u c.loop-k-test.true)).1.inside

pub slice_bounds-rest-count-in-loop-k : goal.slice_bounds-rest-count-in-loop-k
slice_bounds-rest-count-in-loop-k c = inside c

pub slice_bounds-rest-start-in-loop-k : goal.slice_bounds-rest-start-in-loop-k
slice_bounds-rest-start-in-loop-k c = inside c

pub loop-k-preserved : goal.loop-k-preserved
loop-k-preserved c =
    let l = c.loop-k in
    let u = l.invariant.0 in
    let more = c.loop-k-test.true in
    let told = c.in-Some-keep.ensures u.st _ u.held (line_due u more) in
    (rw (from l.rest.now _) (line_passed u more told.0 told.1 told.2 told.3), l.invariant.1)

pub returns-in_default : goal.returns-in_default
returns-in_default c = (_, refl, heading_wrong c.sheet.invariant.0 c.in_default.ensures)

pub returns-in_default-keep : goal.returns-in_default-keep
returns-in_default-keep c =
    let u = c.loop-k.invariant.0 in
    let more = c.loop-k-test.true in
    (_, refl, line_wrong u more (c.in_default-keep.ensures u.st _ u.held (line_due u more)))

pub returns-then-is_empty : goal.returns-then-is_empty
returns-then-is_empty c =
    let e : c.loop-k.k ≡ c.in-Some.heading.value = omega arith in
    sheet_ends {size = c.in-Orders.size} (rw (e, c.in-Orders.is) at c.loop-k.invariant.0) (eqb-true _ _ (sym c.if-is_empty.ensures))

pub returns-else-is_empty : goal.returns-else-is_empty
returns-else-is_empty c =
    let e : c.loop-k.k ≡ c.in-Some.heading.value = omega arith in
    (_, refl, sheet_goes_on (rw (e, c.in-Orders.is) at c.loop-k.invariant.0) (eqb-false _ _ (sym c.if-is_empty.ensures)))
