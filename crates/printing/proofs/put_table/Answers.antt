-- The table is solved in arrays that are long enough, the ties are counted under the additions found, and the front of each is printed.
-- Assumes nothing.
use borrow.Author.Rules.{rules}
use native.Mathlib.Omega.{arith}
use Prim.Native.Nat.{ℕ, ◌≤◌}
use mathlib.Core.List.{List, [], ◌++◌}
use lib.IntN.{ℤ, pos}
use lib.ListN.{length, take, drop, replicate}
use lib.Seq.{length-take-le}
use mir.Facts.{to_z-of_z}
use mir.Syntax.{w32}
use mir.Val.{SFits, of_z, to_z}
use Rattle.theory.specs.Limits.{row_limit}
use Rattle.orders.specs.Refusals.{gives}
use Rattle.handed.specs.Handed.{Sound}
use Rattle.handed.proofs.Basics.{sized}
use Rattle.page.specs.Printed.{figures}
use Rattle.printing.specs.Promise.{TableSays}
use Rattle.printing.proofs.Fits.{table_fits}
use Rattle.printing.proofs.Saying.{Sized, solved_low, solved_known, front_says, refused_says}
use Rattle.printing.proofs.put_table.Goals as goal
use Rattle.printing.proofs.put_table.Goals.{After-index-figure}

-- what the arrays hold before the call, and behind their fronts after it
abbrev zeros : List ℕ
zeros = replicate row_limit 0

abbrev nulls : List ℤ
nulls = replicate row_limit (pos 0)

-- the front of each has the table's size
lent : {n : ℕ} {t : List ℤ} → Sound n t [] → Sized n (take n zeros) (take n zeros) (take n nulls)
lent {n} h =
    let few : n ≤ row_limit = (sized h.in_size).1 in
    record { adds_long = length-take-le n zeros few; stars_long = length-take-le n zeros few; heads_long = length-take-le n nulls few }

pub ties_of-ties-requires : goal.ties_of-ties-requires
ties_of-ties-requires c = solved_low c.requires.0 (lent c.requires.0) c.solve-answer.ensures _ _ c.in-Ok.is

pub index-figure-requires : goal.index-figure-requires
index-figure-requires c = solved_known c.requires.0 (lent c.requires.0) c.solve-answer.ensures _ _ _ c.in-Ok.is

-- what stands in the front of each is the figures of the table
found : (c : After-index-figure) → let q = c.solve-answer.new in let n = c.args.table.now.n in
    TableSays n c.args.table.now.entries.now
    (gives (figures (take n (q.adds ++ drop n zeros)) (take n (q.stars ++ drop n zeros)) (take n (q.heads ++ drop n nulls)) (take n c.ties_of-ties.result)
    (to_z w32 (of_z w32 c.in-Ok.sum)) c.index-figure.result))
found c =
    let f : SFits w32 c.in-Ok.sum = search rules in
    let inside : c.args.table.now.n ≤ length c.ties_of-ties.result = search rules in
    rw (to_z-of_z f)
    (front_says c.requires.0 (lent c.requires.0) c.solve-answer.ensures _ _ c.ties_of-ties.result _ _ _ c.in-Ok.is c.ties_of-ties.ensures inside c.index-figure.ensures)

pub put_figures-requires : goal.put_figures-requires
put_figures-requires c =
    omega (arith, table_fits _ _ _ c.requires.0 (found (goal.at.put_figures-requires c).After-index-figure), c.requires.1)

pub put_refusal-requires : goal.put_refusal-requires
put_refusal-requires c =
    omega (
      arith,
      table_fits _ _ _ c.requires.0 (refused_says c.requires.0 (lent c.requires.0) c.solve-answer.ensures _ c.in-Err.is),
      c.requires.1,
    )

pub returns-in-Ok : goal.returns-in-Ok
returns-in-Ok c =
    record { said = _; holds = found (goal.at.returns-in-Ok c).After-index-figure; puts = c.put_figures.ensures }

pub returns-in-Err : goal.returns-in-Err
returns-in-Err c =
    record {
      said = _;
      holds = refused_says c.requires.0 (lent c.requires.0) c.solve-answer.ensures _ c.in-Err.is;
      puts = c.put_refusal.ensures;
    }
