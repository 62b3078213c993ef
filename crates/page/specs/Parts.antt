-- What the functions inside tell each other.
use Rattle.std.specs.Prelude.{List, map, ℕ}
use Rattle.sheet.specs.Sheet.{ended_lines, counted_lines}
use Rattle.page.specs.Printed.{figures}
use Rattle.page.specs.Printed as said
use Rattle.page.specs.declared.Figures.{Figures}

-- the figures as the lists and numbers that they are
abbrev pub figures_of : Figures → said.Figures
figures_of f = figures f.adds.now f.stars.now f.heads.now f.ties.now f.sum f.index

-- the lines of values, each as it is shown
abbrev pub lines : {A : Type 0} → (A → List ℕ) → List A → List ℕ
lines shown l = ended_lines (map shown l)

-- a section of them under its heading's first bytes, a name and a blank
abbrev pub section : {A : Type 0} → (A → List ℕ) → List ℕ → List A → List ℕ
section shown head l = counted_lines head (map shown l)
