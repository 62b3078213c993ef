-- From additions. Assumes nothing.
use mathlib.Core.Path.{refl, sym, ◌∙◌}
use native.Mathlib.Omega.{arith}
use borrow.Author.Tests.{not-true, not-false}
use Rattle.routes.proofs.Additions.{Same, same_told, reduced_moved, canon_given, reduced_canon}
use Rattle.routes.proofs.from_additions.Goals as goal
use Rattle.routes.proofs.from_additions.Goals.{After-held}

-- what was held is what was handed in
kept : (c : After-held) → Same c.args.table.now.n c.held.result c.args.given.now
kept c = record { each = λ i hi. c.held.ensures i (omega (arith, c.requires.long)) }

pub returns-then-ne : goal.returns-then-ne
returns-then-ne c =
    reduced_moved (kept (goal.at.returns-then-ne c).After-held) c.in-Some.ensures.least
    ((same_told _ _ _ (omega arith) c.requires.long refl).fails (not-true _ (sym c.ne.ensures ∙ c.if-ne.true)))

pub lower-least-requires : goal.lower-least-requires
lower-least-requires c =
    canon_given (kept (goal.at.lower-least-requires c).After-held) c.in-Some.ensures.least

pub returns : goal.returns
returns c =
    reduced_canon (kept (goal.at.returns c).After-held) c.in-Some.ensures.least _
    ((same_told _ _ _ (omega arith) c.requires.long refl).holds (not-false _ (sym c.ne.ensures ∙ c.if-ne.false)))
    c.in-Some.ensures.marks c.lower-least.ensures
    (same_told _ _ _ (omega arith) c.requires.long c.eq.ensures)
