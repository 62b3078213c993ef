-- The proved set of document 01, "Tables on both sides of each edge": the tables marked P, as one list under one statement.
-- Absent is written `-`, rows are parted by `/`; stars are columns from 1, as there.
use Rattle.std.specs.Prelude.{◌≡◌, List, [], ◌∷◌, map, ℕ, ◌*◌, ◌≤◌, ◌<◌, ℤ, pos, neg_ℤ, length}
use Rattle.theory.specs.Limits.{row_limit, order_limit, addition_limit}
use Rattle.theory.specs.Lists.{nums, ints, columns, StarList}
use Rattle.theory.specs.Table.{absent, entry, Entries}
use Rattle.theory.specs.Canon.{SomeTransversal, NoTransversal, Canon, ColumnHead, Index, Greatest, Misplaced, Solution}

-- what is handed in beside the table
pub data Handed : Type 0 where
  nothing : Handed
  additions : List ℕ → Handed
  stars : List ℕ → Handed

-- what comes of it: additions, stars, heads and sum, or refusal 6, 7 or 8
pub data Outcome : Type 0 where
  answer : List ℕ → List ℕ → List ℤ → ℤ → Outcome
  refusal6 : Outcome
  refusal7 : Outcome
  refusal8 : Outcome

pub record Case : Type 0 where
  pub size : ℕ
  pub table : List ℤ
  pub handed : Handed
  pub outcome : Outcome

-- what is handed in leads to the answer: "Any canon within the stated limit, or any transversal of greatest sum"
abbrev pub Answerable : (n : ℕ) → (ℕ → ℕ → ℤ) → Handed → Type 0
Answerable n a nothing = Unit
Answerable n a (additions m) = (length m ≡ n) × ((i : ℕ) → i < n → nums m i ≤ addition_limit) × Canon n a (nums m)
Answerable n a (stars s) = StarList n s × Greatest n a (columns s)

-- what is handed in is refused by 7, being "no canon", or by 8, being misplaced
abbrev pub RefusedBy7 : (n : ℕ) → (ℕ → ℕ → ℤ) → Handed → Type 0
RefusedBy7 n a nothing = ⊥
RefusedBy7 n a (additions m) = (length m ≡ n) × (Canon n a (nums m) → ⊥)
RefusedBy7 n a (stars s) = ⊥

abbrev pub RefusedBy8 : (n : ℕ) → (ℕ → ℕ → ℤ) → Handed → Type 0
RefusedBy8 n a nothing = ⊥
RefusedBy8 n a (additions m) = ⊥
RefusedBy8 n a (stars s) = StarList n s × Misplaced n a (columns s)

-- the outcome is right, by the definitions; the lowest refusal that applies
abbrev pub Comes : (n : ℕ) → (ℕ → ℕ → ℤ) → Handed → Outcome → Type 0
Comes n a given (answer l s h z) =
    Answerable n a given × StarList n s × (length l ≡ n) × (length h ≡ n) × Solution n a (λ i. 0) (nums l) (columns s) (ints h) z
Comes n a given refusal6 = NoTransversal n a
Comes n a given refusal7 = SomeTransversal n a × RefusedBy7 n a given
Comes n a given refusal8 = SomeTransversal n a × RefusedBy8 n a given

-- the one statement: the table is well formed, and its outcome is right
pub record Right (c : Case) : Type 0 where
  pub some : 1 ≤ c.size
  pub few : c.size ≤ row_limit
  pub square : length c.table ≡ c.size * c.size
  pub entries : Entries order_limit c.table
  pub comes : Comes c.size (entry c.table c.size) c.handed c.outcome

-- every case of a list
abbrev pub Every : (Case → Type 0) → List Case → Type 0
Every P [] = Unit
Every P (c ∷ cs) = P c × Every P cs

-- ---- the tables: `o v` is the order v, `m v` the order −v, `x` is absent
abbrev o : ℕ → ℤ
o v = pos v

abbrev m : ℕ → ℤ
m v = neg_ℤ (pos v)

abbrev x : ℤ
x = absent

-- 2 - 0 / - 2 0 / 0 0 -
abbrev pub pendulum : List ℤ
pendulum = o 2 ∷ x ∷ o 0 ∷ x ∷ o 2 ∷ o 0 ∷ o 0 ∷ o 0 ∷ x ∷ []

-- the same answer from the table alone and from the canon 4 4 6
abbrev pendulum_answer : Outcome
pendulum_answer = answer (0 ∷ 0 ∷ 2 ∷ []) (1 ∷ 3 ∷ 2 ∷ []) (o 2 ∷ o 2 ∷ o 0 ∷ []) (o 2)

-- Jacobi's square (002 and 003, rows a to k)
abbrev jacobi : List ℕ
jacobi =
    14 ∷ 23 ∷ 1 ∷ 5 ∷ 73 ∷ 91 ∷ 10 ∷ 34 ∷ 5 ∷ 99 ∷
    25 ∷ 32 ∷ 2 ∷ 4 ∷ 62 ∷ 81 ∷ 9 ∷ 23 ∷ 4 ∷ 88 ∷
    14 ∷ 1 ∷ 7 ∷ 16 ∷ 21 ∷ 7 ∷ 13 ∷ 12 ∷ 3 ∷ 77 ∷
    11 ∷ 53 ∷ 61 ∷ 4 ∷ 3 ∷ 1 ∷ 12 ∷ 1 ∷ 4 ∷ 91 ∷
    9 ∷ 21 ∷ 23 ∷ 18 ∷ 27 ∷ 3 ∷ 6 ∷ 9 ∷ 12 ∷ 15 ∷
    4 ∷ 16 ∷ 18 ∷ 13 ∷ 5 ∷ 12 ∷ 23 ∷ 21 ∷ 14 ∷ 81 ∷
    25 ∷ 43 ∷ 13 ∷ 16 ∷ 83 ∷ 10 ∷ 91 ∷ 3 ∷ 7 ∷ 13 ∷
    27 ∷ 7 ∷ 17 ∷ 37 ∷ 73 ∷ 8 ∷ 11 ∷ 24 ∷ 23 ∷ 22 ∷
    25 ∷ 12 ∷ 18 ∷ 27 ∷ 32 ∷ 18 ∷ 24 ∷ 23 ∷ 14 ∷ 88 ∷
    16 ∷ 28 ∷ 30 ∷ 25 ∷ 34 ∷ 10 ∷ 13 ∷ 16 ∷ 19 ∷ 42 ∷ []

-- all cases marked P
abbrev pub cases : List Case
cases =
    -- `-3`
    record { size = 1; table = m 3 ∷ []; handed = nothing; outcome = answer (0 ∷ []) (1 ∷ []) (m 3 ∷ []) (m 3) } ∷
    -- `-`
    record { size = 1; table = x ∷ []; handed = nothing; outcome = refusal6 } ∷
    -- `5 0 / 5 0`
    record { size = 2; table = o 5 ∷ o 0 ∷ o 5 ∷ o 0 ∷ []; handed = nothing; outcome = answer (0 ∷ 0 ∷ []) (1 ∷ 2 ∷ []) (o 5 ∷ o 0 ∷ []) (o 5) } ∷
    -- `1 0 / 2 0`
    record { size = 2; table = o 1 ∷ o 0 ∷ o 2 ∷ o 0 ∷ []; handed = nothing; outcome = answer (0 ∷ 0 ∷ []) (2 ∷ 1 ∷ []) (o 2 ∷ o 0 ∷ []) (o 2) } ∷
    -- `1 0 / 2 0`, stars 1 2
    record { size = 2; table = o 1 ∷ o 0 ∷ o 2 ∷ o 0 ∷ []; handed = stars (1 ∷ 2 ∷ []); outcome = refusal8 } ∷
    -- `0 100 / -100 -100`
    record { size = 2; table = o 0 ∷ o 100 ∷ m 100 ∷ m 100 ∷ []; handed = nothing; outcome = answer (0 ∷ 100 ∷ []) (2 ∷ 1 ∷ []) (o 0 ∷ o 100 ∷ []) (o 0) } ∷
    -- `100 100 / -100 -100`
    record { size = 2; table = o 100 ∷ o 100 ∷ m 100 ∷ m 100 ∷ []; handed = nothing; outcome = answer (0 ∷ 200 ∷ []) (1 ∷ 2 ∷ []) (o 100 ∷ o 100 ∷ []) (o 0) } ∷
    -- `0 - / 7 -`
    record { size = 2; table = o 0 ∷ x ∷ o 7 ∷ x ∷ []; handed = nothing; outcome = refusal6 } ∷
    -- `0 - / - 7`
    record { size = 2; table = o 0 ∷ x ∷ x ∷ o 7 ∷ []; handed = nothing; outcome = answer (0 ∷ 0 ∷ []) (1 ∷ 2 ∷ []) (o 0 ∷ o 7 ∷ []) (o 7) } ∷
    -- `5 0 0 / 5 0 0 / 0 1 1`
    record {
      size = 3;
      table = o 5 ∷ o 0 ∷ o 0 ∷ o 5 ∷ o 0 ∷ o 0 ∷ o 0 ∷ o 1 ∷ o 1 ∷ [];
      handed = nothing;
      outcome = answer (1 ∷ 1 ∷ 0 ∷ []) (1 ∷ 2 ∷ 3 ∷ []) (o 6 ∷ o 1 ∷ o 1 ∷ []) (o 6);
    } ∷
    -- the pendulum
    record { size = 3; table = pendulum; handed = nothing; outcome = pendulum_answer } ∷
    -- the pendulum, additions 4 4 6
    record { size = 3; table = pendulum; handed = additions (4 ∷ 4 ∷ 6 ∷ []); outcome = pendulum_answer } ∷
    -- the pendulum, additions 0 0 1
    record { size = 3; table = pendulum; handed = additions (0 ∷ 0 ∷ 1 ∷ []); outcome = refusal7 } ∷
    -- the pendulum, additions 1 0 2
    record { size = 3; table = pendulum; handed = additions (1 ∷ 0 ∷ 2 ∷ []); outcome = refusal7 } ∷
    -- Jacobi's square
    record {
      size = 10;
      table = map pos jacobi;
      handed = nothing;
      outcome =
          answer (11 ∷ 21 ∷ 33 ∷ 0 ∷ 31 ∷ 24 ∷ 0 ∷ 11 ∷ 22 ∷ 24 ∷ []) (6 ∷ 2 ∷ 1 ∷ 3 ∷ 4 ∷ 8 ∷ 7 ∷ 5 ∷ 10 ∷ 9 ∷ [])
          (o 47 ∷ o 53 ∷ o 61 ∷ o 49 ∷ o 84 ∷ o 102 ∷ o 91 ∷ o 45 ∷ o 43 ∷ o 110 ∷ []) (o 508);
    } ∷
    []

-- ---- document 02, request 1: head, lowest row and count of every column of some tables, under additions
pub record ColumnCase : Type 0 where
  pub size : ℕ
  pub table : List ℤ
  pub adds : List ℕ
  pub heads : List ℤ
  pub rows : List ℕ
  pub counts : List ℕ

-- the one statement
abbrev pub ColumnsRight : ColumnCase → Type 0
ColumnsRight c =
    (j : ℕ) → j < c.size
    → ColumnHead c.size (entry c.table c.size) (nums c.adds) j (ints c.heads j) (nums c.rows j) (nums c.counts j)

abbrev pub EveryColumns : List ColumnCase → Type 0
EveryColumns [] = Unit
EveryColumns (c ∷ cs) = ColumnsRight c × EveryColumns cs

abbrev columns_of : ℕ → List ℤ → List ℕ → List ℤ → List ℕ → List ℕ → ColumnCase
columns_of n t l h r c = record { size = n; table = t; adds = l; heads = h; rows = r; counts = c }

abbrev pub column_cases : List ColumnCase
column_cases =
    -- `5 0 / 5 0` as it stands: two rows share each head, the lowest is row 1
    columns_of 2 (o 5 ∷ o 0 ∷ o 5 ∷ o 0 ∷ []) (0 ∷ 0 ∷ []) (o 5 ∷ o 0 ∷ []) (1 ∷ 1 ∷ []) (2 ∷ 2 ∷ [])
    -- under 0 1 the ties are broken, and row 2 alone holds both heads
    ∷ columns_of 2 (o 5 ∷ o 0 ∷ o 5 ∷ o 0 ∷ []) (0 ∷ 1 ∷ []) (o 6 ∷ o 1 ∷ []) (2 ∷ 2 ∷ []) (1 ∷ 1 ∷ [])
    -- `0 - / 7 -`: "In a column with no present order head, count and row are 0"
    ∷ columns_of 2 (o 0 ∷ x ∷ o 7 ∷ x ∷ []) (0 ∷ 0 ∷ []) (o 7 ∷ o 0 ∷ []) (2 ∷ 0 ∷ []) (1 ∷ 0 ∷ [])
    -- `5 0 0 / 5 0 0 / 0 1 1`: each row holds a maximum with nothing added, and two share the first column's
    ∷ columns_of 3 (o 5 ∷ o 0 ∷ o 0 ∷ o 5 ∷ o 0 ∷ o 0 ∷ o 0 ∷ o 1 ∷ o 1 ∷ []) (0 ∷ 0 ∷ 0 ∷ []) (o 5 ∷ o 1 ∷ o 1 ∷ []) (1 ∷ 3 ∷ 3 ∷ []) (2 ∷ 1 ∷ 1 ∷ [])
    -- the pendulum as it stands, and under its simplest canon
    ∷ columns_of 3 pendulum (0 ∷ 0 ∷ 0 ∷ []) (o 2 ∷ o 2 ∷ o 0 ∷ []) (1 ∷ 2 ∷ 1 ∷ []) (1 ∷ 1 ∷ 2 ∷ [])
    ∷ columns_of 3 pendulum (0 ∷ 0 ∷ 2 ∷ []) (o 2 ∷ o 2 ∷ o 0 ∷ []) (1 ∷ 2 ∷ 1 ∷ []) (2 ∷ 2 ∷ 2 ∷ [])
    -- `-3`
    ∷ columns_of 1 (m 3 ∷ []) (0 ∷ []) (m 3 ∷ []) (1 ∷ []) (1 ∷ [])
    ∷ []

-- ---- document 02, request 2: the index figure of some tables, under the additions of their simplest canons
pub record IndexCase : Type 0 where
  pub size : ℕ
  pub table : List ℤ
  pub adds : List ℕ
  pub figure : ℕ

-- the one statement
abbrev pub IndexRight : IndexCase → Type 0
IndexRight c = Index c.size (entry c.table c.size) (nums c.adds) c.figure

abbrev pub EveryIndex : List IndexCase → Type 0
EveryIndex [] = Unit
EveryIndex (c ∷ cs) = IndexRight c × EveryIndex cs

abbrev index_of : ℕ → List ℤ → List ℕ → ℕ → IndexCase
index_of n t l x = record { size = n; table = t; adds = l; figure = x }

abbrev pub index_cases : List IndexCase
index_cases =
    -- the pendulum, heads 2 2 0: "every textbook says 3". Its absent places are not negative
    index_of 3 pendulum (0 ∷ 0 ∷ 2 ∷ []) 3
    -- one row: an order 0, 1, −1
    ∷ index_of 1 (o 0 ∷ []) (0 ∷ []) 1
    ∷ index_of 1 (o 1 ∷ []) (0 ∷ []) 0
    ∷ index_of 1 (m 1 ∷ []) (0 ∷ []) 0
    -- `5 0 / 5 0`, heads 5 0
    ∷ index_of 2 (o 5 ∷ o 0 ∷ o 5 ∷ o 0 ∷ []) (0 ∷ 0 ∷ []) 1
    -- `5 0 / -1 0`: the same heads, and a negative order where no star and no maximum stands
    ∷ index_of 2 (o 5 ∷ o 0 ∷ m 1 ∷ o 0 ∷ []) (0 ∷ 0 ∷ []) 0
    -- `0 100 / -100 -100`, heads 0 100
    ∷ index_of 2 (o 0 ∷ o 100 ∷ m 100 ∷ m 100 ∷ []) (0 ∷ 100 ∷ []) 100
    -- `-5 - / - 0`, heads −5 0, and `-5 - / - 3`, heads −5 3
    ∷ index_of 2 (m 5 ∷ x ∷ x ∷ o 0 ∷ []) (0 ∷ 0 ∷ []) 0
    ∷ index_of 2 (m 5 ∷ x ∷ x ∷ o 3 ∷ []) (0 ∷ 0 ∷ []) 0
    -- `5 0 0 / 5 0 0 / 0 1 1`, heads 6 1 1: orders are 0, and no head is
    ∷ index_of 3 (o 5 ∷ o 0 ∷ o 0 ∷ o 5 ∷ o 0 ∷ o 0 ∷ o 0 ∷ o 1 ∷ o 1 ∷ []) (1 ∷ 1 ∷ 0 ∷ []) 1
    -- `2 1 - / 0 - 0 / - - 0`, heads 2 1 2: the third column has orders 0 alone, which are raised
    ∷ index_of 3 (o 2 ∷ o 1 ∷ x ∷ o 0 ∷ x ∷ o 0 ∷ x ∷ x ∷ o 0 ∷ []) (0 ∷ 2 ∷ 2 ∷ []) 2
    ∷ []
