-- Wrong sheets with the numbers of their wrong lines, as one list under one statement. `\n` is a line feed.
use Rattle.std.specs.Prelude.{List, [], ◌∷◌, ◌++◌, ℕ, ◌+◌, pos, negsuc}
use Prim.Native.String.{String}
use Rattle.theory.specs.Limits.{row_limit, order_limit}
use Rattle.sheet.specs.Text.{ascii, text, signed, ended, rows_head}
use Rattle.sheet.specs.FirstWrong.{FirstWrong}

pub record WrongSheet : Type 0 where
  pub line : ℕ
  pub sheet : List ℕ

-- the one statement: in each of the sheets that line is the first wrong one
abbrev pub AllWrong : List WrongSheet → Type 0
AllWrong [] = Unit
AllWrong (w ∷ ws) = FirstWrong w.sheet w.line × AllWrong ws

-- line k of these bytes, or of this text
abbrev bytes : ℕ → List ℕ → WrongSheet
bytes k s = record { line = k; sheet = s }

abbrev line : ℕ → String → WrongSheet
line k s = bytes k (ascii s)

abbrev pub wrong_sheets : List WrongSheet
wrong_sheets =
    -- nothing at all: the first line is missing
    line 1 "" ∷
    -- "N is 1 to 32"
    line 1 "rows 0\n" ∷
    bytes 1 (ended (rows_head ++ text (row_limit + 1))) ∷
    -- "no leading zero, no plus", "by its exact bytes"
    line 1 "rows +1\na\n" ∷
    line 1 "rows 01\na\n" ∷
    line 1 "Rows 1\na\n" ∷
    -- "A label is 1 to 8 letters or digits, unlike every other of its section"
    line 2 "rows 1\nabcdefghi\n" ∷
    line 2 "rows 1\n\ncols 1\n" ∷
    line 2 "rows 1\na b\ncols 1\n" ∷
    line 3 "rows 2\na\na\ncols 2\na\nb\norders 0\n" ∷
    -- "`cols N`, the same N"
    line 4 "rows 2\na\nb\ncols 3\na\nb\nc\n" ∷
    -- "K is 0 to N × N"
    line 9 "rows 3\na\nb\nc\ncols 3\na\nb\nc\norders 10\n" ∷
    -- "minus only before a number that isn't 0", "One blank between fields"
    line 6 "rows 1\na\ncols 1\nx\norders 1\n1 1 -0\n" ∷
    line 6 "rows 1\na\ncols 1\nx\norders 1\n1 1 01\n" ∷
    line 6 "rows 1\na\ncols 1\nx\norders 1\n1 1 +1\n" ∷
    line 6 "rows 1\na\ncols 1\nx\norders 1\n1  1 1\n" ∷
    -- "i and j are 1 to N, v is −100 to 100"
    bytes 6 (ascii "rows 1\na\ncols 1\nx\norders 1\n1 1 " ++ ended (signed (pos (order_limit + 1)))) ∷
    bytes 6 (ascii "rows 1\na\ncols 1\nx\norders 1\n1 1 " ++ ended (signed (negsuc order_limit))) ∷
    line 6 "rows 1\na\ncols 1\nx\norders 1\n1 2 0\n" ∷
    line 6 "rows 1\na\ncols 1\nx\norders 1\n0 1 0\n" ∷
    -- "row before column, strictly rising"
    line 9 "rows 2\na\nb\ncols 2\na\nb\norders 2\n2 1 0\n1 2 0\n" ∷
    line 9 "rows 2\na\nb\ncols 2\na\nb\norders 2\n1 1 0\n1 1 0\n" ∷
    -- "An order line isn't wrong because too few places remain after it to make up K: then the missing line is."
    line 11 "rows 3\na\nb\nc\ncols 3\na\nb\nc\norders 9\n3 3 0\n" ∷
    -- "a missing line, an unended line and a line after the last are wrong in the place where they stand"
    line 3 "rows 1\na\n" ∷
    line 6 "rows 1\na\ncols 1\nx\norders 1\n" ∷
    line 6 "rows 1\na\ncols 1\nx\norders 1\n1 1 5" ∷
    line 6 "rows 1\na\ncols 1\nx\norders 0\n\n" ∷
    line 7 "rows 1\na\ncols 1\nx\norders 1\n1 1 5\n1 1 5\n" ∷
    line 9 "rows 2\na\nb\ncols 2\na\nb\norders 1\n1 1 0\n1 2 0\n" ∷
    line 7 "rows 1\na\ncols 1\nx\norders 1\n1 1 5\n1" ∷
    []
