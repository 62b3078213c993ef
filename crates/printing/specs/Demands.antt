-- What the customer's demand 1 says of printing: about the promise, not about the code. The refusals of a sheet and of its table are
-- printed; returned is 12 alone.
use Rattle.std.specs.Prelude.{◌≡◌, List, [], ◌⊎◌, ℕ, ◌+◌, ◌≤◌, ◌<◌, length, ℤ, pos, Result}
use Rattle.theory.specs.Lists.{nums, ints}
use Rattle.theory.specs.Table.{entry}
use Rattle.theory.specs.Canon.{LargestAddition, SomeNegative}
use Rattle.orders.specs.Refusals.{Said, gives, says, Proper}
use Rattle.orders.specs.declared.Refusal.{Refusal}
use Rattle.canon.specs.Answers.{Filled}
use Rattle.canon.specs.Demands.{HeadBuffers, FillsHeads}
use Rattle.page.specs.Printed.{Figures, printed}
use Rattle.printing.specs.Room.{enough}
use Rattle.printing.specs.Promise.{FiguresOf, SheetSays, PrintPromise}

-- 12, as the writer gives it: the printed answer does not fit the lent room
abbrev pub printing_due : List ℕ → List ℕ → ℕ → List ℕ → Type 0
printing_due s room k values = (a : Said Figures) × SheetSays s a × (length room < length (printed a)) × (k ≡ 12) × (values ≡ [])

-- Document 02, request 2: the index figure that is printed, beside the largest addition, which the figure was until then.
pub record Request2 (n : ℕ) (t : List ℤ) (f : Figures) (most : ℕ) : Type 0 where
  -- it is the largest addition or one more
  pub near : (f.index ≡ most) ⊎ (f.index ≡ most + 1)
  -- "a table with a negative order keeps the largest addition"
  pub kept : SomeNegative n (entry t n) → f.index ≡ most
  -- otherwise it is one more exactly when some head that is printed is 0
  pub one_more : (SomeNegative n (entry t n) → ⊥) → (j : ℕ) → j < n → ints f.heads j ≡ pos 0 → f.index ≡ most + 1
  pub only_then : f.index ≡ most + 1 → (SomeNegative n (entry t n) → ⊥) × ((j : ℕ) × (j < n) × (ints f.heads j ≡ pos 0))

-- Demand 1 of the call: "Public calls test size, lengths, orders and lists themselves, give the numbered refusal, and then leave each
-- lent buffer holding what it held before."
pub record PrintingCall : Type 0 where
  pub printing : (s room : List ℕ) → Proper (printing_due s room) says room (λ (r : Result ℕ Refusal) room'. PrintPromise s room room' (says r))
  -- and no sheet's answer is too long for a room that is enough
  pub roomy : (s : List ℕ) (a : Said Figures) → SheetSays s a → length (printed a) ≤ enough
  -- document 02, request 1: the heads and ties that are printed are those that `column_heads` tells of the additions printed
  pub columns : (n : ℕ) (t : List ℤ) (f : Figures) (b b' : HeadBuffers) (r : Filled) → FiguresOf n t f → FillsHeads n t f.adds b r b'
      → says r ≡ gives tt → (b'.heads ≡ f.heads) × (b'.counts ≡ f.ties)
  -- request 2: what is printed as the index figure of a table, whatever its largest addition is
  pub index : (n : ℕ) (t : List ℤ) (f : Figures) (most : ℕ) → FiguresOf n t f → LargestAddition n (nums f.adds) most → Request2 n t f most
