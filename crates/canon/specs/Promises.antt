-- What each public call promises, for every input: between what is lent at the call and what is returned and lent afterwards.
use Rattle.std.specs.Prelude.{◌≡◌, true, false, List, [], ◌∷◌, ℕ, ◌<◌, ℤ, length}
use Rattle.theory.specs.Lists.{nums, ints, columns, StarList}
use Rattle.theory.specs.Table.{entry}
use Rattle.theory.specs.Canon.{Simplest, ColumnHead, Solution}
use Rattle.orders.specs.Refusals.{Test, First, Clear, gives, refuses, says}
use Rattle.handed.specs.Conditions.{table_tests, canon_tests, heads_tests, star_tests}
use Rattle.canon.specs.Answers.{Answer, Verdict, Filled}

-- A route's call. Either some refusal that concerns the call applies: then the first, which is the lowest, is returned and "each lent buffer then holds
-- what it held at the call". Or none does: then the sum is returned, and the lent slices hold the simplest canon, the stars and
-- the heads.
pub data Routed (tests : List Test) (n : ℕ) (t : List ℤ) (adds stars : List ℕ) (heads : List ℤ) (r : Answer) (adds' stars' : List ℕ)
    (heads' : List ℤ) : Type 0 where
  refused : (k : ℕ) → First tests k → says r ≡ refuses k [] → adds' ≡ adds → stars' ≡ stars → heads' ≡ heads
      → Routed tests n t adds stars heads r adds' stars' heads'
  answered : (s : ℤ) → Clear tests → says r ≡ gives s → length adds' ≡ n → StarList n stars' → length heads' ≡ n
      → Solution n (entry t n) (λ i. 0) (nums adds') (columns stars') (ints heads') s
      → Routed tests n t adds stars heads r adds' stars' heads'

-- route 1, from the table alone
abbrev pub Solves : ℕ → List ℤ → List ℕ → List ℕ → List ℤ → Answer → List ℕ → List ℕ → List ℤ → Type 0
Solves n t adds stars heads = Routed (table_tests n t (length adds ∷ length stars ∷ length heads ∷ [])) n t adds stars heads

-- route 2, from additions that are a canon
abbrev pub FromCanon : ℕ → List ℤ → List ℕ → List ℕ → List ℕ → List ℤ → Answer → List ℕ → List ℕ → List ℤ → Type 0
FromCanon n t given adds stars heads =
    Routed (canon_tests n t given (length given ∷ length adds ∷ length stars ∷ length heads ∷ [])) n t adds stars heads

-- route 3, from a transversal of greatest sum
abbrev pub FromStars : ℕ → List ℤ → List ℕ → List ℕ → List ℕ → List ℤ → Answer → List ℕ → List ℕ → List ℤ → Type 0
FromStars n t given adds stars heads =
    Routed (star_tests n t given (length given ∷ length adds ∷ length stars ∷ length heads ∷ [])) n t adds stars heads

-- The yes-or-no "takes route 2's input and says yes exactly when the additions are the simplest canon". It is lent nothing that it
-- could write.
pub data Judges (n : ℕ) (t : List ℤ) (given : List ℕ) (r : Verdict) : Type 0 where
  declines : (k : ℕ) → First (canon_tests n t given (length given ∷ [])) k → says r ≡ refuses k [] → Judges n t given r
  says_yes : Clear (canon_tests n t given (length given ∷ [])) → says r ≡ gives true → Simplest n (entry t n) (nums given) → Judges n t given r
  says_no : Clear (canon_tests n t given (length given ∷ [])) → says r ≡ gives false → (Simplest n (entry t n) (nums given) → ⊥)
      → Judges n t given r

-- the slices that the finding of all heads is lent, which are to have n elements each
abbrev pub head_lengths : List ℕ → List ℤ → List ℕ → List ℕ → List ℕ
head_lengths given heads rows counts = length given ∷ length heads ∷ length rows ∷ length counts ∷ []

-- Document 02, request 1: "Finding a column's head must also tell the lowest row that holds it and how many rows do." Of every column, with
-- the additions given: either a refusal that concerns the call applies, the first is returned, and the lent slices hold what they held;
-- or none does, and they hold head, row (numbered from 1) and count of each column.
pub data ColumnHeads (n : ℕ) (t : List ℤ) (given : List ℕ) (heads : List ℤ) (rows counts : List ℕ) (r : Filled) (heads' : List ℤ) (rows' counts' : List ℕ)
    : Type 0 where
  leaves : (k : ℕ) → First (heads_tests n t given (head_lengths given heads rows counts)) k → says r ≡ refuses k [] → heads' ≡ heads → rows' ≡ rows
      → counts' ≡ counts → ColumnHeads n t given heads rows counts r heads' rows' counts'
  fills : Clear (heads_tests n t given (head_lengths given heads rows counts)) → says r ≡ gives tt → length heads' ≡ n → length rows' ≡ n → length counts' ≡ n
      → ((j : ℕ) → j < n → ColumnHead n (entry t n) (nums given) j (ints heads' j) (nums rows' j) (nums counts' j))
      → ColumnHeads n t given heads rows counts r heads' rows' counts'
