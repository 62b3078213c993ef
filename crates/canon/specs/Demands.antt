-- The customer's demands 1 to 3, about the promises of the public calls and not about the code: one record a demand, of a table t of n
-- rows, each field under the sentence that it renders. Then two sentences of document 01 about all calls, and request 1 of document 02.
-- (What the demands say of sheets stands in the crate sheet_round.)
use Rattle.std.specs.Prelude.{◌≡◌, ◌≢◌, true, false, List, [], ◌∷◌, ℕ, ◌+◌, ◌*◌, ◌≤◌, ◌<◌, ℤ, pos, neg_ℤ, ◌≤ℤ◌, length}
use Rattle.theory.specs.Limits.{row_limit, order_limit, addition_limit, FoundWithin}
use Rattle.theory.specs.Lists.{nums, ints, columns, StarList}
use Rattle.theory.specs.Table.{entry, Entries}
use Rattle.theory.specs.Canon.{SomeTransversal, NoTransversal, raised, Canon, Simplest, Heads, LowestHolder, EmptyColumn, Ties, Stars, Balance}
use Rattle.theory.specs.Cases.{Handed, nothing, additions, stars, Answerable}
use Rattle.orders.specs.Refusals.{Test, Applies, First, Among, due, Proper, gives, refuses, says}
use Rattle.handed.specs.Conditions.{TooLarge, WrongStars, NoCanon, NotGreatest, table_tests, canon_tests, heads_tests, star_tests}
use Rattle.canon.specs.Answers.{Answer, Verdict, Filled}
use Rattle.canon.specs.Promises.{Solves, FromCanon, FromStars, Judges, head_lengths, ColumnHeads}

-- ---- words
-- what a route is lent to write into
pub record Buffers : Type 0 where
  pub adds : List ℕ
  pub stars : List ℕ
  pub heads : List ℤ

abbrev pub buffers : List ℕ → List ℕ → List ℤ → Buffers
buffers a s h = record { adds = a; stars = s; heads = h }

abbrev pub lengths : Buffers → List ℕ
lengths b = length b.adds ∷ length b.stars ∷ length b.heads ∷ []

-- what the finding of all heads is lent to write into
pub record HeadBuffers : Type 0 where
  pub heads : List ℤ
  pub rows : List ℕ
  pub counts : List ℕ

abbrev pub head_buffers : List ℤ → List ℕ → List ℕ → HeadBuffers
head_buffers h r c = record { heads = h; rows = r; counts = c }

-- its promise, where b is lent at the call, r is returned, and b' is lent afterwards; and what it tests
abbrev pub FillsHeads : ℕ → List ℤ → List ℕ → HeadBuffers → Filled → HeadBuffers → Type 0
FillsHeads n t given b r b' = ColumnHeads n t given b.heads b.rows b.counts r b'.heads b'.rows b'.counts

abbrev pub heads_tests_of : ℕ → List ℤ → List ℕ → HeadBuffers → List Test
heads_tests_of n t given b = heads_tests n t given (head_lengths given b.heads b.rows b.counts)

-- "a well-formed table"
pub record WellFormed (n : ℕ) (t : List ℤ) : Type 0 where
  pub some : 1 ≤ n
  pub few : n ≤ row_limit
  pub square : length t ≡ n * n
  pub entries : Entries order_limit t

-- "in slices of the wanted length"
pub record Wanted (n : ℕ) (b : Buffers) : Type 0 where
  pub adds_long : length b.adds ≡ n
  pub stars_long : length b.stars ≡ n
  pub heads_long : length b.heads ≡ n

-- "Three ways to the same canon": the promise of the route that begins with what is handed in, where b is lent at the call, r is
-- returned, and b' is lent afterwards
abbrev pub Route : ℕ → List ℤ → Handed → Buffers → Answer → Buffers → Type 0
Route n t nothing b r b' = Solves n t b.adds b.stars b.heads r b'.adds b'.stars b'.heads
Route n t (additions l) b r b' = FromCanon n t l b.adds b.stars b.heads r b'.adds b'.stars b'.heads
Route n t (stars s) b r b' = FromStars n t s b.adds b.stars b.heads r b'.adds b'.stars b'.heads

-- what that route tests: "size, lengths, orders and lists", and whether it has an answer
abbrev pub tests : ℕ → List ℤ → Handed → Buffers → List Test
tests n t nothing b = table_tests n t (lengths b)
tests n t (additions l) b = canon_tests n t l (length l ∷ lengths b)
tests n t (stars s) b = star_tests n t s (length s ∷ lengths b)

-- what the yes-or-no tests
abbrev pub verdict_tests : ℕ → List ℤ → List ℕ → List Test
verdict_tests n t given = canon_tests n t given (length given ∷ [])

-- "Every call ends properly on every input. Public calls test size, lengths, orders and lists themselves, give the numbered refusal,
-- and then leave each lent buffer holding what it held before."
pub record Demand1 (n : ℕ) (t : List ℤ) : Type 0 where
  pub routes : (start : Handed) (b : Buffers) → Proper (due (tests n t start b)) says b (Route n t start b)
  -- the yes-or-no is lent nothing that it could write
  pub verdict : (given : List ℕ) → Proper (due (verdict_tests n t given)) says (tt {0}) (λ v m. Judges n t given v)
  -- document 02, request 1: head, lowest row and count of every column
  pub heads : (given : List ℕ) (b : HeadBuffers) → Proper (due (heads_tests_of n t given b)) says b (FillsHeads n t given b)
  -- document 01: "The lowest number that applies is given"
  pub routes_lowest : (start : Handed) (b : Buffers) (j k : ℕ) → First (tests n t start b) j → Applies (tests n t start b) k → j ≤ k
  pub verdict_lowest : (given : List ℕ) (j k : ℕ) → First (verdict_tests n t given) j → Applies (verdict_tests n t given) k → j ≤ k
  pub heads_lowest : (given : List ℕ) (b : HeadBuffers) (j k : ℕ) → First (heads_tests_of n t given b) j → Applies (heads_tests_of n t given b) k
      → j ≤ k

-- what demand 2 says of everything that a route answers
pub record Answered (n : ℕ) (t : List ℤ) (b : Buffers) : Type 0 where
  pub wanted : Wanted n b
  -- "The additions are Jacobi's simplest canon"
  pub simplest : Simplest n (entry t n) (nums b.adds)
  -- "no canon with additions of zero or more has a smaller one in any row"
  pub none_smaller : (m : ℕ → ℕ) → Canon n (entry t n) m → (i : ℕ) → i < n → nums b.adds i ≤ m i
  -- "The stars are the first complete transversal of column maxima"
  pub star_list : StarList n b.stars
  pub first_stars : Stars n (entry t n) (nums b.adds) (columns b.stars)

-- "The additions are Jacobi's simplest canon .. The yes-or-no says yes to these additions only."
pub record Demand2 (n : ℕ) (t : List ℤ) : Type 0 where
  pub answered : (start : Handed) (b b' : Buffers) (r : Answer) (s : ℤ) → Route n t start b r b' → says r ≡ gives s → Answered n t b'
  -- "Any canon within the stated limit, or any transversal of greatest sum, leads": what is handed in so is answered,
  pub canon_leads : (l : List ℕ) (b b' : Buffers) (r : Answer) → WellFormed n t → Wanted n b → Answerable n (entry t n) (additions l)
      → Route n t (additions l) b r b' → (s : ℤ) × (says r ≡ gives s)
  pub greatest_leads : (s : List ℕ) (b b' : Buffers) (r : Answer) → WellFormed n t → Wanted n b → Answerable n (entry t n) (stars s)
      → Route n t (stars s) b r b' → (s : ℤ) × (says r ≡ gives s)
  -- "to the same answer": whatever was handed in and lent, two routes that answer return the same and write the same
  pub same_answer : (start other : Handed) (b b' c c' : Buffers) (r q : Answer) (x y : ℤ) → Route n t start b r b' → says r ≡ gives x
      → Route n t other c q c' → says q ≡ gives y → (r ≡ q) × (b' ≡ c')
  -- "other starts are refused": what is answered was a canon within the limit, or a transversal of greatest sum,
  pub only_these_lead : (start : Handed) (b b' : Buffers) (r : Answer) (s : ℤ) → Route n t start b r b' → says r ≡ gives s
      → Answerable n (entry t n) start
  -- so all else is refused, and the lent buffers hold what they held
  pub others_refused : (start : Handed) (b b' : Buffers) (r : Answer) → (Answerable n (entry t n) start → ⊥) → Route n t start b r b'
      → (k : ℕ) × (says r ≡ refuses k []) × (b' ≡ b)
  -- in slices of the wanted length: additions by 4 if one is above the limit, and by 7 if they are no canon though a transversal exists,
  pub too_large_refused : (l : List ℕ) (b b' : Buffers) (r : Answer) → WellFormed n t → Wanted n b → length l ≡ n → TooLarge l
      → Route n t (additions l) b r b' → (says r ≡ refuses 4 []) × (b' ≡ b)
  pub no_canon_refused : (l : List ℕ) (b b' : Buffers) (r : Answer) → WellFormed n t → Wanted n b → SomeTransversal n (entry t n) → length l ≡ n
      → ((i : ℕ) → i < n → nums l i ≤ addition_limit) → NoCanon n t l → Route n t (additions l) b r b' → (says r ≡ refuses 7 []) × (b' ≡ b)
  -- stars by 5 if one is outside 1 to N or given twice, and by 8 if one is on an absent place or their sum is not the greatest
  pub wrong_stars_refused : (s : List ℕ) (b b' : Buffers) (r : Answer) → WellFormed n t → Wanted n b → length s ≡ n → WrongStars n s
      → Route n t (stars s) b r b' → (says r ≡ refuses 5 []) × (b' ≡ b)
  pub not_greatest_refused : (s : List ℕ) (b b' : Buffers) (r : Answer) → WellFormed n t → Wanted n b → SomeTransversal n (entry t n)
      → StarList n s → NotGreatest n t s → Route n t (stars s) b r b' → (says r ≡ refuses 8 []) × (b' ≡ b)
  -- "The yes-or-no says yes to these additions": to those that a route answers,
  pub yes_to_these : (start : Handed) (b b' : Buffers) (r : Answer) (s : ℤ) (v : Verdict) → Route n t start b r b' → says r ≡ gives s
      → Judges n t b'.adds v → says v ≡ gives true
  -- "only"
  pub yes_only : (start : Handed) (b b' : Buffers) (r : Answer) (s : ℤ) (given : List ℕ) (v : Verdict) → Route n t start b r b' → says r ≡ gives s
      → Judges n t given v → says v ≡ gives true → given ≡ b'.adds
  -- and no to every other canon within the limit
  pub no_to_others : (start : Handed) (b b' : Buffers) (r : Answer) (s : ℤ) (given : List ℕ) (v : Verdict) → Route n t start b r b' → says r ≡ gives s
      → Answerable n (entry t n) (additions given) → given ≢ b'.adds → Judges n t given v → says v ≡ gives false

-- "Taken alone, a well-formed table, in slices of the wanted length, is refused exactly when no complete transversal of present orders
-- exists. Otherwise the sum is the column maxima less the additions, no complete transversal has a greater one, and one reaches it
-- exactly when each of its orders, with its row's addition, is its column's maximum."
pub record Demand3 (n : ℕ) (t : List ℤ) : Type 0 where
  -- "refused .. when": by 6, and the lent buffers hold what they held
  pub refused_if_none : (b b' : Buffers) (r : Answer) → WellFormed n t → Wanted n b → Route n t nothing b r b' → NoTransversal n (entry t n)
      → (says r ≡ refuses 6 []) × (b' ≡ b)
  -- "exactly"
  pub none_if_refused : (b b' : Buffers) (r : Answer) (k : ℕ) (values : List ℕ) → WellFormed n t → Wanted n b → Route n t nothing b r b'
      → says r ≡ refuses k values → NoTransversal n (entry t n)
  -- "Otherwise": a table with a complete transversal is answered, and no other is
  pub answered_if_some : (b b' : Buffers) (r : Answer) → WellFormed n t → Wanted n b → Route n t nothing b r b' → SomeTransversal n (entry t n)
      → (s : ℤ) × (says r ≡ gives s)
  pub some_if_answered : (start : Handed) (b b' : Buffers) (r : Answer) (s : ℤ) → Route n t start b r b' → says r ≡ gives s
      → SomeTransversal n (entry t n)
  -- "the sum is the column maxima less the additions, ..": on every route, the heads being the column maxima
  pub heads : (start : Handed) (b b' : Buffers) (r : Answer) (s : ℤ) → Route n t start b r b' → says r ≡ gives s
      → Heads n (entry t n) (nums b'.adds) (ints b'.heads)
  pub balance : (start : Handed) (b b' : Buffers) (r : Answer) (s : ℤ) → Route n t start b r b' → says r ≡ gives s
      → Balance n (entry t n) (nums b'.adds) (ints b'.heads) s

-- ---- document 01, "Refusal numbers"
abbrev pub numbers_of : Handed → List ℕ
numbers_of nothing = 1 ∷ 2 ∷ 3 ∷ 6 ∷ []
numbers_of (additions l) = 1 ∷ 2 ∷ 3 ∷ 4 ∷ 6 ∷ 7 ∷ []
numbers_of (stars s) = 1 ∷ 2 ∷ 3 ∷ 5 ∷ 6 ∷ 8 ∷ []

-- "Route 2 and the yes-or-no never give 5 or 8; route 3 never gives 4 or 7."
pub record Numbered (n : ℕ) (t : List ℤ) : Type 0 where
  pub routes : (start : Handed) (b b' : Buffers) (r : Answer) (k : ℕ) (values : List ℕ) → Route n t start b r b' → says r ≡ refuses k values
      → Among (numbers_of start) k
  pub verdict : (given : List ℕ) (v : Verdict) (k : ℕ) (values : List ℕ) → Judges n t given v → says v ≡ refuses k values
      → Among (numbers_of (additions given)) k
  -- `column_heads` tests size, lengths, entries and additions alone, and so gives no other
  pub heads : (given : List ℕ) (b b' : HeadBuffers) (r : Filled) (k : ℕ) (values : List ℕ) → FillsHeads n t given b r b' → says r ≡ refuses k values
      → Among (1 ∷ 2 ∷ 3 ∷ 4 ∷ []) k

-- ---- document 01, the table of limits: what is found
-- every route keeps within it
pub record Limited (n : ℕ) (t : List ℤ) : Type 0 where
  pub found : (start : Handed) (b b' : Buffers) (r : Answer) (s : ℤ) → Route n t start b r b' → says r ≡ gives s
      → FoundWithin n (nums b'.adds) (ints b'.heads) s

-- ---- document 02, request 1: what `column_heads` tells, where it refuses nothing
pub record TiesTold (n : ℕ) (t : List ℤ) (given : List ℕ) (b : HeadBuffers) : Type 0 where
  -- "the lowest row that holds it", in every column with a present order,
  pub lowest : (j : ℕ) → j < n → (EmptyColumn n (entry t n) j → ⊥)
      → (i : ℕ) × LowestHolder n (entry t n) (nums given) j i × (nums b.rows j ≡ i + 1) × (ints b.heads j ≡ raised n (entry t n) (nums given) i j)
  -- "and how many rows do": the counts are those of the rows that hold a maximum
  pub counts_are : Ties n (entry t n) (nums given) (nums b.counts)
  -- "In a column with no present order head, count and row are 0", and a count is 0 in no other
  pub empty_zero : (j : ℕ) → j < n → EmptyColumn n (entry t n) j → (ints b.heads j ≡ pos 0) × (nums b.rows j ≡ 0) × (nums b.counts j ≡ 0)
  pub zero_empty : (j : ℕ) → j < n → nums b.counts j ≡ 0 → EmptyColumn n (entry t n) j
  -- the heads are at least −100 and at most 10,100
  pub within : (j : ℕ) → j < n → (neg_ℤ (pos order_limit) ≤ℤ ints b.heads j) × (ints b.heads j ≤ℤ pos (addition_limit + order_limit))
  -- under a canon some row holds each column's head
  pub canon_counts : Canon n (entry t n) (nums given) → (j : ℕ) → j < n → 1 ≤ nums b.counts j

pub record Request1 (n : ℕ) (t : List ℤ) : Type 0 where
  pub tells : (given : List ℕ) (b b' : HeadBuffers) (r : Filled) → FillsHeads n t given b r b' → says r ≡ gives tt → TiesTold n t given b'
  -- of the additions that a route answers it tells the heads that the route wrote
  pub route_heads : (start : Handed) (c c' : Buffers) (q : Answer) (s : ℤ) (b b' : HeadBuffers) (r : Filled) → Route n t start c q c' → says q ≡ gives s
      → FillsHeads n t c'.adds b r b' → says r ≡ gives tt → b'.heads ≡ c'.heads
