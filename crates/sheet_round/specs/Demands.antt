-- What the customer's demands 1 and 2 say of sheets and of the calls on them: about the definitions and the promises, not about the code.
-- Each field stands under the sentence that it renders.
use Rattle.std.specs.Prelude.{◌≡◌, ◌⊎◌, List, [], ◌∷◌, ℕ, ◌*◌, ◌≤◌, length, take, Result}
use Rattle.theory.specs.Limits.{sheet_limit}
use Rattle.orders.specs.Refusals.{Said, gives, First, Clear, Applies, due, Proper, says}
use Rattle.orders.specs.declared.Refusal.{Refusal}
use Rattle.sheet.specs.Text.{over}
use Rattle.sheet.specs.Labels.{width}
use Rattle.sheet.specs.Sheet.{Labelled, Stands, sheet_of, IsSheet}
use Rattle.sheet.specs.FirstWrong.{FirstWrong}
use Rattle.reader.specs.Promise.{Lent, Wanted, written, reader_tests, ReadPromise}
use Rattle.writer.specs.Promise.{Model, model, Labelling, writer_tests, WritePromise}

-- the refusal that the reader has to give: the first of 2 and 9 that applies, or else 10 with the number of the wrong line
abbrev pub reader_due : List ℕ → Lent → ℕ → List ℕ → Type 0
reader_due s m k values =
    due (reader_tests s m) k values ⊎ ((line : ℕ) × Clear (reader_tests s m) × FirstWrong s line × (k ≡ 10) × (values ≡ line ∷ []))

-- Demand 1 of reader and writer: "Public calls test size, lengths, orders and lists themselves, give the numbered refusal, and then
-- leave each lent buffer holding what it held before."
pub record SheetCalls : Type 0 where
  pub reader : (s : List ℕ) (m : Lent) → Proper (reader_due s m) says m (λ (r : Result ℕ Refusal) m'. ReadPromise s m m' (says r))
  pub writer : (h : Model) (o : List ℕ) → Proper (due (writer_tests h o)) says o (λ (r : Result ℕ Refusal) o'. WritePromise h o o' (says r))
  -- document 01: "The lowest number that applies is given"
  pub reader_lowest : (s : List ℕ) (m : Lent) (j k : ℕ) → First (reader_tests s m) j → Applies (reader_tests s m) k → j ≤ k
  pub writer_lowest : (h : Model) (o : List ℕ) (j k : ℕ) → First (writer_tests h o) j → Applies (writer_tests h o) k → j ≤ k

-- Demand 2: "Sheets and labelled tables match one to one."
pub record OneToOne : Type 0 where
  -- every labelled table within the limits has one sheet, which is never too long,
  pub has_sheet : (t : Labelled) → Stands t → IsSheet t (sheet_of t)
  pub one_sheet : (t : Labelled) (s r : List ℕ) → IsSheet t s → IsSheet t r → s ≡ r
  pub never_too_long : (t : Labelled) → Stands t → length (sheet_of t) ≤ sheet_limit
  -- and no other table has it
  pub one_table : (s : List ℕ) (t u : Labelled) → IsSheet t s → IsSheet u s → t ≡ u
  -- bytes are the sheet of a labelled table or have a first wrong line, and never both
  pub sheet_or_wrong : (s : List ℕ) → ((t : Labelled) × IsSheet t s) ⊎ ((k : ℕ) × FirstWrong s k)
  pub not_both : (s : List ℕ) (t : Labelled) (k : ℕ) → IsSheet t s → FirstWrong s k → ⊥
  -- and that line is one
  pub one_line : (s : List ℕ) (j k : ℕ) → FirstWrong s j → FirstWrong s k → j ≡ k
  -- the same of the calls: what the writer wrote for a table, the reader reads back as that table
  pub read_back : (h : Model) (o o' : List ℕ) (k : ℕ) (m m' : Lent) (a : Said ℕ) → WritePromise h o o' (gives k) → Wanted m
      → ReadPromise (take k o') m m' a → (t : Labelled) × Labelling h t × (a ≡ gives h.n) × (m' ≡ written t m)
  -- and what the reader read from a sheet, the writer writes back into any room that is long enough, byte for byte
  pub write_back : (s : List ℕ) (m m' : Lent) (n : ℕ) (o o' : List ℕ) (a : Said ℕ) → ReadPromise s m m' (gives n) → length s ≤ length o
      → WritePromise (model n (take (n * n) m'.table) (take (width * n) m'.row_labels) (take (width * n) m'.col_labels)) o o' a
      → (a ≡ gives (length s)) × (o' ≡ over s o)
