-- What the printing of a sheet's answer promises.
use Rattle.std.specs.Prelude.{◌≡◌, List, [], ◌∷◌, ℕ, suc, ◌≤◌, ◌<◌, ℤ, length, take}
use Rattle.theory.specs.Limits.{sheet_limit}
use Rattle.theory.specs.Lists.{nums, ints, columns, StarList}
use Rattle.theory.specs.Table.{entry}
use Rattle.theory.specs.Canon.{NoTransversal, Solution, Ties, Index}
use Rattle.orders.specs.Refusals.{Said, gives, refuses}
use Rattle.sheet.specs.Text.{over}
use Rattle.sheet.specs.Sheet.{Labelled, IsSheet, TooLong}
use Rattle.sheet.specs.FirstWrong.{FirstWrong}
use Rattle.lettering.specs.Putting.{Puts}
use Rattle.page.specs.Printed.{Figures, printed}
use Rattle.printing.specs.Room.{enough}

-- the figures of a table of n rows: its simplest canon, the stars, the heads and the sum
pub record FiguresOf (n : ℕ) (t : List ℤ) (f : Figures) : Type 0 where
  pub adds_long : length f.adds ≡ n
  pub star_list : StarList n f.stars
  pub heads_long : length f.heads ≡ n
  pub ties_long : length f.ties ≡ n
  pub solution : Solution n (entry t n) (λ i. 0) (nums f.adds) (columns f.stars) (ints f.heads) f.sum
  -- document 02, request 1: "how many rows" hold each head under these additions, "one count a column"
  pub is_ties : Ties n (entry t n) (nums f.adds) (nums f.ties)
  -- request 2: "the figure follows Pryce, but a table with a negative order keeps the largest addition"
  pub is_index : Index n (entry t n) (nums f.adds) f.index

-- what the answer of a table says: its figures, or that "no complete transversal exists"
pub data TableSays (n : ℕ) (t : List ℤ) (a : Said Figures) : Type 0 where
  no_transversal : NoTransversal n (entry t n) → a ≡ refuses 6 [] → TableSays n t a
  solved : (f : Figures) → FiguresOf n t f → a ≡ gives f → TableSays n t a

-- what the answer of a sheet says: that "a sheet is longer than 12,288 bytes", that "a line of a sheet is wrong", or what the
-- answer of its table says
pub data SheetSays (s : List ℕ) (a : Said Figures) : Type 0 where
  too_long : TooLong s → a ≡ refuses 9 [] → SheetSays s a
  wrong_line : (k : ℕ) → (TooLong s → ⊥) → FirstWrong s k → a ≡ refuses 10 (k ∷ []) → SheetSays s a
  of_table : (t : Labelled) → (TooLong s → ⊥) → IsSheet t s → TableSays (length t.row_labels) t.entries a → SheetSays s a

-- the sheet, the room at the call, the room after it, and what is returned: the printed answer stands at the front of the room,
-- and bytes after it stay; or it does not fit: then 12 is returned, and the room holds what it held at the call
pub data PrintPromise (s room room' : List ℕ) (r : Said ℕ) : Type 0 where
  no_room : (a : Said Figures) → SheetSays s a → length room < length (printed a) → r ≡ refuses 12 [] → room' ≡ room → PrintPromise s room room' r
  wrote : (a : Said Figures) → SheetSays s a → length (printed a) ≤ length room → r ≡ gives (length (printed a)) → room' ≡ over (printed a) room
      → PrintPromise s room room' r

-- ---- the program
-- an answer of which P holds stands printed at the front of a room, r is its length, and bytes after it stay
pub record Prints (P : Said Figures → Type 0) (room room' : List ℕ) (r : ℕ) : Type 0 where
  pub said : Said Figures
  pub holds : P said
  pub puts : Puts (printed said) room room' r

-- the first n bytes of a buffer were read of an input: all of it, or as many as the buffer holds
pub record ReadOf (input buffer : List ℕ) (n : ℕ) : Type 0 where
  pub front : take n buffer ≡ take (length buffer) input

-- The buffer holds one byte more than the longest sheet, and the room is enough. Whatever the input, of which the first n bytes of the
-- buffer were read: its answer stands printed at the front of the room. There is no refusal.
pub record InputPromise (buffer : List ℕ) (n : ℕ) (room room' : List ℕ) (r : ℕ) : Type 0 where
  pub one_more : length buffer ≡ suc sheet_limit
  pub roomy : length room ≡ enough
  pub answers : (input : List ℕ) → ReadOf input buffer n → Prints (SheetSays input) room room' r
