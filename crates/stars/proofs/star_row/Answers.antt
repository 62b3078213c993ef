-- A row is starred as it stands, or the marks are shifted. Assumes nothing.
use borrow.Author.Rules.{rules}
use Rattle.stars.proofs.Moving.{candidate, starred_so}
use Rattle.stars.proofs.star_row.Goals as goal

pub shift-requires : goal.shift-requires
shift-requires c = let p = c.requires in (p.0, p.1, candidate p.1 p.0 c.in-Some.ensures (λ k told late. search rules))

pub returns-in_default : goal.returns-in_default
returns-in_default c = let p = c.requires in starred_so p.1 p.0 c.in_default.ensures (λ k told late. search rules)
