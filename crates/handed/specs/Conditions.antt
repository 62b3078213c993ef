-- Document 01's "Refusal numbers", the column "Given exactly when", as far as table, additions and stars go: one definition for
-- each number (2 stands in orders/specs/Refusals, 9 and 10 in sheet/specs, Sheet and FirstWrong, 11 in labels/specs/Wrong, 12 with the
-- writer's promise). The tests of a call stand in rising order.
use Rattle.std.specs.Prelude.{◌≡◌, ◌⊎◌, List, [], ◌∷◌, ℕ, ◌*◌, ◌<◌, ℤ, pos, length, get_or}
use Rattle.theory.specs.Limits.{row_limit, order_limit, addition_limit}
use Rattle.theory.specs.Lists.{nums, columns}
use Rattle.theory.specs.Table.{Present, Order, entry}
use Rattle.theory.specs.Canon.{NoTransversal, Canon, Misplaced}
use Rattle.orders.specs.Refusals.{Test, ◌given_when◌, Slice, ◌wanted◌, WrongLength}

-- 1: "N is 0 or above 32"
abbrev pub OutOfSize : ℕ → Type 0
OutOfSize n = (n ≡ 0) ⊎ (row_limit < n)

-- "additions, stars, heads N each": ks are the lengths of these
abbrev pub each : ℕ → List ℕ → List Slice
each n [] = []
each n (k ∷ ks) = k wanted n ∷ each n ks

-- the slices of a call, for refusal 2: "Table N × N" and the others
abbrev pub slices : ℕ → List ℤ → List ℕ → List Slice
slices n t ks = length t wanted n * n ∷ each n ks

-- 3: "an entry is neither absent nor −100 to 100"
pub record WrongEntry (t : List ℤ) : Type 0 where
  pub place : ℕ
  pub inside : place < length t
  pub not_absent : Present (get_or t place (pos 0))
  pub no_order : Order order_limit (get_or t place (pos 0)) → ⊥

-- 4: "an addition handed in is above 10,000"
pub record TooLarge (l : List ℕ) : Type 0 where
  pub row : ℕ
  pub inside : row < length l
  pub above : addition_limit < nums l row

-- 5: "a star list has a number outside 1 to N, or one twice"
pub data WrongStars (n : ℕ) (s : List ℕ) : Type 0 where
  under_one : (i : ℕ) → i < length s → nums s i < 1 → WrongStars n s
  over_size : (i : ℕ) → i < length s → n < nums s i → WrongStars n s
  twice : (i k : ℕ) → i < k → k < length s → nums s i ≡ nums s k → WrongStars n s

-- 6: "no complete transversal exists": `NoTransversal` of the theory

-- 7: "additions handed in are no canon"
abbrev pub NoCanon : ℕ → List ℤ → List ℕ → Type 0
NoCanon n t l = Canon n (entry t n) (nums l) → ⊥

-- 8: "a star lies on an absent place, or the stars' sum isn't the greatest"
abbrev pub NotGreatest : ℕ → List ℤ → List ℕ → Type 0
NotGreatest n t s = Misplaced n (entry t n) (columns s)

-- the first three, which concern every call on a table
abbrev pub basic : ℕ → List ℤ → List ℕ → List Test → List Test
basic n t ks more = 1 given_when OutOfSize n ∷ 2 given_when WrongLength (slices n t ks) ∷ 3 given_when WrongEntry t ∷ more

-- route 1
abbrev pub table_more : ℕ → List ℤ → List Test
table_more n t = 6 given_when NoTransversal n (entry t n) ∷ []

abbrev pub table_tests : ℕ → List ℤ → List ℕ → List Test
table_tests n t ks = basic n t ks (table_more n t)

-- route 2 and the yes-or-no: "never give 5 or 8"
abbrev pub canon_more : ℕ → List ℤ → List ℕ → List Test
canon_more n t given = 4 given_when TooLarge given ∷ 6 given_when NoTransversal n (entry t n) ∷ 7 given_when NoCanon n t given ∷ []

abbrev pub canon_tests : ℕ → List ℤ → List ℕ → List ℕ → List Test
canon_tests n t given ks = basic n t ks (canon_more n t given)

-- the heads of all columns with additions handed in, which need not be a canon
abbrev pub heads_more : List ℕ → List Test
heads_more given = 4 given_when TooLarge given ∷ []

abbrev pub heads_tests : ℕ → List ℤ → List ℕ → List ℕ → List Test
heads_tests n t given ks = basic n t ks (heads_more given)

-- route 3: "never gives 4 or 7"
abbrev pub star_more : ℕ → List ℤ → List ℕ → List Test
star_more n t given = 5 given_when WrongStars n given ∷ 6 given_when NoTransversal n (entry t n) ∷ 8 given_when NotGreatest n t given ∷ []

abbrev pub star_tests : ℕ → List ℤ → List ℕ → List ℕ → List Test
star_tests n t given ks = basic n t ks (star_more n t given)
