-- What the tests in code tell of what is handed in.
use Rattle.std.specs.Prelude.{◌≡◌, Bool, true, false, List, [], ℕ, ◌≤◌, ◌<◌, ℤ, length, Result, Ok, Err, Option, Some, None}
use Rattle.theory.specs.Limits.{order_limit, addition_limit}
use Rattle.theory.specs.Lists.{nums, columns, StarList}
use Rattle.theory.specs.Table.{Entries}
use Rattle.orders.specs.Places.{Square, Marks}
use Rattle.orders.specs.Refusals.{number_of, values_of, First, RightLengths}
use Rattle.orders.specs.declared.Refusal.{Refusal}
use Rattle.orders.specs.declared.marks.Marked.{Marked}
use Rattle.handed.specs.Conditions.{OutOfSize, TooLarge, WrongStars, each, basic}

-- what a call has where none of the refusals 1, 2 and 3 applies
pub record Sound (n : ℕ) (t : List ℤ) (ks : List ℕ) : Type 0 where
  pub in_size : OutOfSize n → ⊥
  pub square : Square t n
  pub fitting : RightLengths (each n ks)
  pub entries : Entries order_limit t

-- r tells the first of the refusals 1, 2 and 3 that applies, or that none does
pub record Basic (n : ℕ) (t : List ℤ) (ks : List ℕ) (r : Result Unit Refusal) : Type 0 where
  pub passed : r ≡ Ok tt → Sound n t ks
  pub refused : (q : Refusal) → r ≡ Err q → First (basic n t ks []) (number_of q) × (values_of q ≡ [])

-- r tells whether all additions handed in are within the limit, or one is above it
pub record WithinAs (l : List ℕ) (r : Bool) : Type 0 where
  pub within : r ≡ true → (i : ℕ) → i < length l → nums l i ≤ addition_limit
  pub above : r ≡ false → TooLarge l

-- s is a star list, and m has its marks: row of column and column of row, from 0
pub record Listed (n : ℕ) (s : List ℕ) (m : Marked) : Type 0 where
  pub star_list : StarList n s
  pub marks : Marks n (nums m.rows) (nums m.columns)
  pub same : (i : ℕ) → i < n → nums m.columns i ≡ columns s i

-- r has the marks of s where s is a star list, and tells where it is none
pub record ListedAs (n : ℕ) (s : List ℕ) (r : Option Marked) : Type 0 where
  pub listed : (m : Marked) → r ≡ Some m → Listed n s m
  pub wrong : r ≡ None → WrongStars n s
