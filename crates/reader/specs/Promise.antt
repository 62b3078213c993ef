-- The reader's promise.
use Rattle.std.specs.Prelude.{◌≡◌, List, [], ◌∷◌, ℕ, ◌*◌, ℤ, length}
use Rattle.theory.specs.Limits.{row_limit}
use Rattle.orders.specs.Refusals.{Said, gives, refuses, Test, ◌given_when◌, First, Clear, Slice, ◌wanted◌, WrongLength}
use Rattle.sheet.specs.Text.{over}
use Rattle.sheet.specs.Labels.{width, slots}
use Rattle.sheet.specs.Sheet.{Labelled, IsSheet, TooLong}
use Rattle.sheet.specs.FirstWrong.{FirstWrong}

-- what is lent to the reader
pub record Lent : Type 0 where
  pub table : List ℤ
  pub row_labels : List ℕ
  pub col_labels : List ℕ

abbrev pub lent : List ℤ → List ℕ → List ℕ → Lent
lent t r c = record { table = t; row_labels = r; col_labels = c }

-- "The reader's table has 1,024 entries and each label buffer 256 bytes"
pub record Wanted (m : Lent) : Type 0 where
  pub table_length : length m.table ≡ row_limit * row_limit
  pub rows_length : length m.row_labels ≡ width * row_limit
  pub cols_length : length m.col_labels ≡ width * row_limit

-- the same for refusal 2
abbrev pub slices : Lent → List Slice
slices m =
    length m.table wanted row_limit * row_limit ∷
    length m.row_labels wanted width * row_limit ∷
    length m.col_labels wanted width * row_limit ∷ []

-- "Reader: 2, 9, 10": the two that are tested before the lines are read
abbrev pub reader_tests : List ℕ → Lent → List Test
reader_tests s m = 2 given_when WrongLength (slices m) ∷ 9 given_when TooLong s ∷ []

-- "It writes the first N × N entries and 8 bytes a label, filled up with zero bytes; later entries and bytes stay."
abbrev pub written : Labelled → Lent → Lent
written t m =
    record {
      table = over t.entries m.table;
      row_labels = over (slots t.row_labels) m.row_labels;
      col_labels = over (slots t.col_labels) m.col_labels;
    }

-- The sheet s, what was lent at the call, what is lent after it, and the answer. Either 2 or 9 applies: then the lower is returned. Or
-- neither does: then 10 is returned with the number of the first wrong line; or, where the bytes are the sheet of a labelled table, N,
-- with that table and its labels written. With a refusal "each lent buffer then holds what it held at the call".
pub data ReadPromise (s : List ℕ) (m m' : Lent) (a : Said ℕ) : Type 0 where
  refused : (k : ℕ) → First (reader_tests s m) k → a ≡ refuses k [] → m' ≡ m → ReadPromise s m m' a
  wrong_line : (k : ℕ) → Clear (reader_tests s m) → FirstWrong s k → a ≡ refuses 10 (k ∷ []) → m' ≡ m → ReadPromise s m m' a
  read : (t : Labelled) → Clear (reader_tests s m) → IsSheet t s → a ≡ gives (length t.row_labels) → m' ≡ written t m → ReadPromise s m m' a
