-- The middle of routes 2 and 3, between the tests of what is handed in and the whole answer.
use Rattle.std.specs.Prelude.{◌≡◌, Result, Ok, Err, List, [], ◌∷◌, ℕ, ◌≤◌, ◌<◌, ℤ, length}
use Rattle.theory.specs.Limits.{order_limit, addition_limit}
use Rattle.theory.specs.Lists.{nums}
use Rattle.theory.specs.Table.{entry, Entries}
use Rattle.theory.specs.Canon.{SomeTransversal, NoTransversal, Canon, Simplest, Misplaced}
use Rattle.orders.specs.Places.{Marks}
use Rattle.orders.specs.Held.{LeastBy}
use Rattle.orders.specs.Tested.{Tells}
use Rattle.orders.specs.Refusals.{Test, ◌given_when◌, First, number_of, values_of}
use Rattle.orders.specs.declared.Refusal.{Refusal}
use Rattle.orders.specs.declared.Refusal.TheVariants as refusals
use Rattle.handed.specs.Conditions.{NoCanon}
use Rattle.routes.specs.declared.Reduced.{Reduced}

-- entries that were tested, and additions within the limit
pub record GivenAdditions (t : List ℤ) (n : ℕ) (given : List ℕ) : Type 0 where
  pub entries : Entries order_limit t
  pub long : length given ≡ n
  pub limited : (i : ℕ) → i < n → nums given i ≤ addition_limit

-- the tests of additions that are within the limit
abbrev pub reduced_tests : ℕ → List ℤ → List ℕ → List Test
reduced_tests n t given = 6 given_when NoTransversal n (entry t n) ∷ 7 given_when NoCanon n t given ∷ []

-- what is known of additions that are a canon
pub record Reduces (t : List ℤ) (n : ℕ) (given : List ℕ) (r : Reduced) : Type 0 where
  pub is_canon : Canon n (entry t n) (nums given)
  pub least : LeastBy t n (λ i. 0) r.additions r.marks.columns
  pub marks : Marks n (nums r.marks.rows) (nums r.marks.columns)
  pub judged : Tells r.unchanged (Simplest n (entry t n) (nums given))

-- what is known of additions handed in: that they are a canon, with the simplest; or the first of the refusals 6 and 7 that applies
pub record ReducedFrom (t : List ℤ) (n : ℕ) (given : List ℕ) (r : Result Reduced Refusal) : Type 0 where
  pub reduced : (x : Reduced) → r ≡ Ok x → Reduces t n given x
  pub refused : (q : Refusal) → r ≡ Err q → First (reduced_tests n t given) (number_of q) × (values_of q ≡ [])
  pub exists : r ≡ Err refusals.NoCanon → SomeTransversal n (entry t n)

-- entries that were tested, and columns inside the table, no two the same
pub record GivenColumns (t : List ℤ) (n : ℕ) (column_of : List ℕ) : Type 0 where
  pub entries : Entries order_limit t
  pub inside : (i : ℕ) → i < n → nums column_of i < n
  pub apart : (i k : ℕ) → i < n → k < n → nums column_of i ≡ nums column_of k → i ≡ k

-- the tests of columns that are such
abbrev pub raised_tests : ℕ → List ℤ → List ℕ → List Test
raised_tests n t column_of = 6 given_when NoTransversal n (entry t n) ∷ 8 given_when Misplaced n (entry t n) (nums column_of) ∷ []

-- what is known of a transversal of greatest sum
pub record Raises (t : List ℤ) (n : ℕ) (column_of l : List ℕ) : Type 0 where
  pub placed : Misplaced n (entry t n) (nums column_of) → ⊥
  pub least : LeastBy t n (λ i. 0) l column_of

-- what is known of a transversal handed in: that it has the greatest sum, with the simplest canon; or the first of the refusals 6 and 8
-- that applies
pub record RaisedFrom (t : List ℤ) (n : ℕ) (column_of : List ℕ) (r : Result (List ℕ) Refusal) : Type 0 where
  pub raised : (l : List ℕ) → r ≡ Ok l → Raises t n column_of l
  pub refused : (q : Refusal) → r ≡ Err q → First (raised_tests n t column_of) (number_of q) × (values_of q ≡ [])
  pub exists : r ≡ Err refusals.NotGreatest → SomeTransversal n (entry t n)
