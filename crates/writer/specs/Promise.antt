-- The writer's promise.
use Rattle.std.specs.Prelude.{◌≡◌, ◌⊎◌, List, [], ◌∷◌, ℕ, ◌*◌, ◌<◌, ℤ, length}
use Rattle.orders.specs.Refusals.{Said, gives, refuses, Test, ◌given_when◌, First, Clear, Slice, ◌wanted◌, WrongLength}
use Rattle.handed.specs.Conditions.{OutOfSize, WrongEntry}
use Rattle.sheet.specs.Text.{over}
use Rattle.sheet.specs.Labels.{width, Labels, slots}
use Rattle.sheet.specs.Sheet.{Labelled, sheet_of}
use Rattle.labels.specs.Wrong.{WrongIn}

-- what is handed in to be written
pub record Model : Type 0 where
  pub n : ℕ
  pub table : List ℤ
  pub row_labels : List ℕ
  pub col_labels : List ℕ

abbrev pub model : ℕ → List ℤ → List ℕ → List ℕ → Model
model n t r c = record { n = n; table = t; row_labels = r; col_labels = c }

-- "Table N × N", "the writer's has 8 × N bytes a label buffer"
pub record Wanted (h : Model) : Type 0 where
  pub table_length : length h.table ≡ h.n * h.n
  pub rows_length : length h.row_labels ≡ width * h.n
  pub cols_length : length h.col_labels ≡ width * h.n

-- the same for refusal 2
abbrev pub slices : Model → List Slice
slices h =
    length h.table wanted h.n * h.n ∷
    length h.row_labels wanted width * h.n ∷
    length h.col_labels wanted width * h.n ∷ []

-- what is handed is the labelled table t: each label of its form, "filled up with zero bytes", and unlike the others of its section
pub record Labelling (h : Model) (t : Labelled) : Type 0 where
  pub rows_are : slots t.row_labels ≡ h.row_labels
  pub cols_are : slots t.col_labels ≡ h.col_labels
  pub rows_stand : Labels t.row_labels
  pub cols_stand : Labels t.col_labels
  pub entries_are : t.entries ≡ h.table

-- 11: "a label handed to the writer is malformed or repeated"
abbrev pub WrongLabel : Model → Type 0
WrongLabel h = WrongIn h.n h.row_labels ⊎ WrongIn h.n h.col_labels

-- 12: "the sheet doesn't fit the writer's lent room"
abbrev pub NoRoom : Model → List ℕ → Type 0
NoRoom h room = (t : Labelled) × Labelling h t × (length room < length (sheet_of t))

-- "Writer: 1, 2, 3, 11, 12"
abbrev pub writer_tests : Model → List ℕ → List Test
writer_tests h room =
    1 given_when OutOfSize h.n ∷
    2 given_when WrongLength (slices h) ∷
    3 given_when WrongEntry h.table ∷
    11 given_when WrongLabel h ∷
    12 given_when NoRoom h room ∷ []

-- What is handed, the room at the call, the room after it, and the answer: "The reader returns N, the writer the length of the sheet
-- written." Either some refusal that concerns the writer applies: then
-- the first, which is the lowest, is returned and "each lent buffer then holds what it held at the call". Or none does: then the
-- length of the sheet is returned, the sheet stands at the front of the room, and "bytes after the sheet stay".
pub data WritePromise (h : Model) (room room' : List ℕ) (a : Said ℕ) : Type 0 where
  refused : (k : ℕ) → First (writer_tests h room) k → a ≡ refuses k [] → room' ≡ room → WritePromise h room room' a
  wrote : (t : Labelled) → Clear (writer_tests h room) → Labelling h t → a ≡ gives (length (sheet_of t)) → room' ≡ over (sheet_of t) room
      → WritePromise h room room' a
