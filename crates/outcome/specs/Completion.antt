-- The whole answer from a canon: heads, first stars and sum.
use Rattle.std.specs.Prelude.{◌≡◌, List, ℕ, ◌≤◌, ◌<◌, ℤ, length, take}
use Rattle.theory.specs.Lists.{nums, ints, columns, StarList}
use Rattle.theory.specs.Table.{entry}
use Rattle.theory.specs.Canon.{Maximum, Heads, Stars, sum}
use Rattle.outcome.specs.declared.WholeAnswer.{WholeAnswer}

-- the row that is marked in each column holds the column's maximum
pub record RowsHold (t : List ℤ) (n : ℕ) (l row_of : List ℕ) : Type 0 where
  pub inside : (j : ℕ) → j < n → nums row_of j < n
  pub maximum : (j : ℕ) → j < n → Maximum n (entry t n) (nums l) (nums row_of j) j

-- r has these additions, with the first stars (columns from 1), the heads and the sum that belong to them
pub record WholeAnswerOf (t : List ℤ) (n : ℕ) (additions : List ℕ) (r : WholeAnswer) : Type 0 where
  pub same : r.additions ≡ additions
  pub stars : Stars n (entry t n) (nums additions) (columns r.stars)
  pub from_one : (i : ℕ) → i < n → 1 ≤ nums r.stars i
  pub heads : Heads n (entry t n) (nums additions) (ints r.heads)
  pub is_sum : r.sum ≡ sum n (entry t n) (columns r.stars)

-- the first elements of the fixed arrays fill the lent slices, as many as each has
pub record HandedOut (w : WholeAnswer) (adds stars : List ℕ) (heads : List ℤ) (adds' stars' : List ℕ) (heads' : List ℤ) : Type 0 where
  pub adds_are : adds' ≡ take (length adds) w.additions
  pub stars_are : stars' ≡ take (length stars) w.stars
  pub heads_are : heads' ≡ take (length heads) w.heads

-- slices with a place for each of the n rows
pub record Slices (n : ℕ) (adds stars : List ℕ) (heads : List ℤ) : Type 0 where
  pub adds_long : length adds ≡ n
  pub stars_long : length stars ≡ n
  pub heads_long : length heads ≡ n

-- the slices hold the additions, the first stars that belong to them and the heads, and s is the sum
pub record Delivered (t : List ℤ) (n : ℕ) (additions : List ℕ) (s : ℤ) (adds stars : List ℕ) (heads : List ℤ) : Type 0 where
  pub adds_long : length adds ≡ n
  pub adds_are : (i : ℕ) → i < n → nums additions i ≡ nums adds i
  pub star_list : StarList n stars
  pub stars_are : Stars n (entry t n) (nums additions) (columns stars)
  pub heads_long : length heads ≡ n
  pub heads_are : Heads n (entry t n) (nums additions) (ints heads)
  pub is_sum : s ≡ sum n (entry t n) (columns stars)
