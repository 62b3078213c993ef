-- The list of wrong sheets is right: their outcomes are computed. Assumes nothing.
use mathlib.Core.Path.{◌≡◌, refl, subst}
use mathlib.Core.List.{List, [], ◌∷◌}
use native.Mathlib.Decide.{ℕ_discrete, dec_le, dec_lt}
use Rattle.sheet.specs.Text.{digits, text}
use Rattle.sheet.specs.Reading.{start, Reads, Outcome, wrong}
use Rattle.sheet.specs.WrongSheets.{WrongSheet, AllWrong, wrong_sheets}
use Rattle.sheet.proofs.Deciding.{outcome}
use Rattle.sheet.proofs.FirstWrong.{wrong_is_first}

-- the outcomes computed, and those of the list
abbrev computed : List WrongSheet → List Outcome
computed [] = []
computed (w ∷ ws) = (outcome w.sheet).0 ∷ computed ws

abbrev stated : List WrongSheet → List Outcome
stated [] = []
stated (w ∷ ws) = wrong w.line ∷ stated ws

-- an outcome that is computed is one that holds
all_wrong : (ws : List WrongSheet) → computed ws ≡ stated ws → AllWrong ws
all_wrong [] e = tt
all_wrong (w ∷ ws) e =
    let s = w.sheet in
    let h : (outcome s).0 ≡ wrong w.line = cc in
    (wrong_is_first s w.line (subst (λ o. Reads start 1 s o) h (outcome s).1), all_wrong ws (cc))

as_stated : computed wrong_sheets ≡ stated wrong_sheets
unfolding ℕ_discrete dec_le dec_lt digits text outcome
as_stated = refl

pub wrong_sheets_right : AllWrong wrong_sheets
wrong_sheets_right = all_wrong wrong_sheets as_stated
