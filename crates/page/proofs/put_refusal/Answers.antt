-- The line of a refusal that has a line number. Assumes nothing.
use native.Mathlib.Omega.{arith}
use mathlib.Core.Path.{ap}
use lib.ListN.{length}
use Rattle.lettering.proofs.PutLaws.{puts_same}
use Rattle.page.proofs.Refusing.{refused_line}
use Rattle.page.proofs.put_refusal.Goals as goal

pub put_heading-requires : goal.put_heading-requires
put_heading-requires c = omega (arith, ap length (refused_line c.args.r c.in-Line.line c.in-Line.is))

pub returns-in-Line : goal.returns-in-Line
returns-in-Line c = puts_same _ _ _ _ _ (refused_line c.args.r c.in-Line.line c.in-Line.is) c.put_heading.ensures
