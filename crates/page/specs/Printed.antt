-- "The printed answer, whole."
use mathlib.Core.List.{List, [], ◌∷◌, ◌++◌, map}
use Rattle.std.specs.List.{flat_map}
use Rattle.std.specs.Prelude.{ℕ, ℤ}
use Prim.Native.String.{String}
use Rattle.sheet.specs.Text.{blank, ascii, text, signed, ended}
use Rattle.sheet.specs.Sheet.{counted_lines}
use Rattle.orders.specs.Refusals.{Said, gives, refuses}

-- what the answer of a table says
pub record Figures : Type 0 where
  pub adds : List ℕ
  pub stars : List ℕ
  pub heads : List ℤ
  pub ties : List ℕ
  pub sum : ℤ
  pub index : ℕ

abbrev pub figures : List ℕ → List ℕ → List ℤ → List ℕ → ℤ → ℕ → Figures
figures a s h c v x = record { adds = a; stars = s; heads = h; ties = c; sum = v; index = x }

-- ---- sections
-- a section: "its name", and "the values" as they are printed
pub record Section : Type 0 where
  pub name : List ℕ
  pub values : List (List ℕ)

-- "numbers .. as in a sheet", and signed ones
abbrev pub numbers : String → List ℕ → Section
numbers name l = record { name = ascii name; values = map text l }

abbrev pub integers : String → List ℤ → Section
integers name l = record { name = ascii name; values = map signed l }

-- the sections of an answer. "Additions, starred columns and heads stand in row or column order." Document 02, request 1: "the
-- printed answer gets a section `ties N` after `heads`, one count a column".
abbrev pub sections : Figures → List Section
sections f =
    numbers "adds" f.adds
    ∷ numbers "stars" f.stars
    ∷ integers "heads" f.heads
    ∷ numbers "ties" f.ties
    ∷ integers "sum" (f.sum ∷ [])
    ∷ numbers "index" (f.index ∷ [])
    ∷ []

-- "Each section is a line with its name and its count of values, then the values, one a line, with .. line ends as in a sheet."
abbrev pub section_text : Section → List ℕ
section_text s = counted_lines (s.name ++ blank ∷ []) s.values

-- ---- a refusal's one line
-- its number and what follows it, each after a blank
abbrev pub spaced : List ℕ → List ℕ
spaced [] = []
spaced (v ∷ vs) = blank ∷ (text v ++ spaced vs)

abbrev pub refused_name : List ℕ
refused_name = ascii "refused"

-- The sections one after the other. "A refusal prints one line: `refused 6`, or `refused 10 7` for line 7."
abbrev pub printed : Said Figures → List ℕ
printed (gives f) = flat_map section_text (sections f)
printed (refuses k vs) = ended (refused_name ++ spaced (k ∷ vs))
