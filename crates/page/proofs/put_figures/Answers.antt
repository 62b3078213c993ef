-- Section after section, each in the room that those before it left. Assumes nothing.
use mathlib.Core.Path.{sym}
use mathlib.Core.List.{List, [], append-nil}
use Prim.Native.Nat.{ℕ}
use lib.ListN.{get_or, drop}
use mir.Facts.{to_z-of_z}
use mir.Syntax.{w32}
use mir.Val.{SFits}
use borrow.Author.Rules.{rules}
use Rattle.std.specs.List.{flat_map}
use Rattle.lettering.proofs.PutLaws.{Begun, begun, tail_inside, next_room, next_put, last_put, puts_same}
use Rattle.page.specs.Printed.{numbers, sections, section_text}
use Rattle.page.specs.Parts.{figures_of}
use Rattle.page.proofs.put_figures.Goals as goal
use Rattle.page.proofs.put_figures.Goals.{Start, After-put_section-at, After-put_section-at-2, After-put_section-at-3}
use Rattle.page.proofs.put_figures.Goals.{After-put_section-at-4, After-put_section-at-5}

-- the text of section k, counted from 0, and those of the sections from it on
abbrev section : ℕ → Start → List ℕ
section k s = section_text (get_or (sections (figures_of s.args.figures.now)) k (numbers "" []))

abbrev from : ℕ → Start → List ℕ
from k s = flat_map section_text (drop k (sections (figures_of s.args.figures.now)))

-- the sections before section k were put, and it comes next
abbrev Next : ℕ → Start → Type 0
Next k s = Begun (from 0 s) (from k s) s.args.page.now

sum_fits : (s : Start) → SFits w32 s.args.figures.now.sum
sum_fits s = search rules

abbrev one : (c : After-put_section-at) → Next 1 (goal.at.After-put_section-at c).Start
one c = let s = (goal.at.After-put_section-at c).Start in begun (from 1 s) s.requires c.put_section-at.ensures

abbrev two : (c : After-put_section-at-2) → Next 2 (goal.at.After-put_section-at-2 c).Start
two c =
    let s = (goal.at.After-put_section-at-2 c).Start in next_put (section 1 s) (from 2 s) (one (goal.at.After-put_section-at-2 c).After-put_section-at) c.put_section-at-2.ensures

abbrev three : (c : After-put_section-at-3) → Next 3 (goal.at.After-put_section-at-3 c).Start
three c =
    let s = (goal.at.After-put_section-at-3 c).Start in next_put (section 2 s) (from 3 s) (two (goal.at.After-put_section-at-3 c).After-put_section-at-2) c.put_section-at-3.ensures

abbrev four : (c : After-put_section-at-4) → Next 4 (goal.at.After-put_section-at-4 c).Start
four c =
    let s = (goal.at.After-put_section-at-4 c).Start in next_put (section 3 s) (from 4 s) (three (goal.at.After-put_section-at-4 c).After-put_section-at-3) c.put_section-at-4.ensures

abbrev five : (c : After-put_section-at-5) → Next 5 (goal.at.After-put_section-at-5 c).Start
five c =
    let s = (goal.at.After-put_section-at-5 c).Start in next_put (section 4 s) (from 5 s) (four (goal.at.After-put_section-at-5 c).After-put_section-at-4) (simp (to_z-of_z (sum_fits s)) at c.put_section-at-5.ensures)

pub slice_bounds-put_section-count-3 : goal.slice_bounds-put_section-count-3
slice_bounds-put_section-count-3 c = tail_inside (three (goal.at.slice_bounds-put_section-count-3 c).After-put_section-at-3)

pub slice_bounds-put_section-start-3 : goal.slice_bounds-put_section-start-3
slice_bounds-put_section-start-3 c = tail_inside (three (goal.at.slice_bounds-put_section-start-3 c).After-put_section-at-3)

pub slice_bounds-put_section-count-4 : goal.slice_bounds-put_section-count-4
slice_bounds-put_section-count-4 c = tail_inside (four (goal.at.slice_bounds-put_section-count-4 c).After-put_section-at-4)

pub slice_bounds-put_section-start-4 : goal.slice_bounds-put_section-start-4
slice_bounds-put_section-start-4 c = tail_inside (four (goal.at.slice_bounds-put_section-start-4 c).After-put_section-at-4)

pub put_section-at-requires-3 : goal.put_section-at-requires-3
put_section-at-requires-3 c =
    let p = goal.at.put_section-at-requires-3 c in next_room (section 2 p.Start) (from 3 p.Start) (two p.After-put_section-at-2)

pub put_section-at-requires-4 : goal.put_section-at-requires-4
put_section-at-requires-4 c =
    let p = goal.at.put_section-at-requires-4 c in next_room (section 3 p.Start) (from 4 p.Start) (three p.After-put_section-at-3)

pub put_section-at-requires-5 : goal.put_section-at-requires-5
put_section-at-requires-5 c =
    let p = goal.at.put_section-at-requires-5 c in rw (to_z-of_z (sum_fits p.Start)) (next_room (section 4 p.Start) (from 5 p.Start) (four p.After-put_section-at-4))

pub put_section-at-requires-6 : goal.put_section-at-requires-6
put_section-at-requires-6 c =
    let p = goal.at.put_section-at-requires-6 c in next_room (section 5 p.Start) (from 6 p.Start) (five p.After-put_section-at-5)

pub returns : goal.returns
returns c =
    let p = goal.at.returns c in
    last_put (five p.After-put_section-at-5) (puts_same _ _ _ _ _ (sym (append-nil (section 5 p.Start))) c.put_section-at-6.ensures)
