-- Document 01's "Definitions taken from Jacobi", and what requests 1 and 2 of document 02 add to them, for a table with n rows and n
-- columns whose entry in row i and column j is `a i j`. Additions are natural numbers, one for each row; orders, heads and sums are
-- signed. Only rows and columns below n count.
use Rattle.std.specs.Prelude.{◌≡◌, ℕ, ◌+◌, ◌≤◌, ◌<◌, ℤ, pos, ◌+ℤ◌, ◌-ℤ◌, ◌≤ℤ◌, ◌<ℤ◌}
use Rattle.theory.specs.Totals.{total, totalℕ, Count}
use Rattle.theory.specs.Table.{absent, Present, Negative}

-- l is at most m in every row
abbrev pub AtMost : ℕ → (ℕ → ℕ) → (ℕ → ℕ) → Type 0
AtMost n l m = (i : ℕ) → i < n → l i ≤ m i

-- x is "the largest addition" of n rows
pub record LargestAddition (n : ℕ) (l : ℕ → ℕ) (x : ℕ) : Type 0 where
  pub row : ℕ
  pub inside : row < n
  pub is : x ≡ l row
  pub largest : (i : ℕ) → i < n → l i ≤ x

module _ (n : ℕ) (a : ℕ → ℕ → ℤ) where
  -- "A complete transversal takes one present order from each row, no two in one column." Row i's order is in column σ i.
  pub record Transversal (σ : ℕ → ℕ) : Type 0 where
    pub inside : (i : ℕ) → i < n → σ i < n
    pub present : (i : ℕ) → i < n → Present (a i (σ i))
    pub apart : (i k : ℕ) → i < n → k < n → σ i ≡ σ k → i ≡ k

  -- one exists, or refusal 6's "no complete transversal exists"
  abbrev pub SomeTransversal : Type 0
  SomeTransversal = (σ : ℕ → ℕ) × Transversal σ

  abbrev pub NoTransversal : Type 0
  NoTransversal = (σ : ℕ → ℕ) → Transversal σ → ⊥

  -- "each present order of row i is raised by l of row i"; read only where the order is present
  abbrev pub raised : (ℕ → ℕ) → ℕ → ℕ → ℤ
  raised l i j = a i j +ℤ pos (l i)

  -- "A column maximum is a present raised order that no present raised order of its column exceeds; ties all count."
  pub record Maximum (l : ℕ → ℕ) (i j : ℕ) : Type 0 where
    pub present : Present (a i j)
    pub unexceeded : (k : ℕ) → k < n → Present (a k j) → raised l k j ≤ℤ raised l i j

  -- a "complete transversal [that] consists of column maxima"
  pub record OfMaxima (l σ : ℕ → ℕ) : Type 0 where
    pub transversal : Transversal σ
    pub maximum : (i : ℕ) → i < n → Maximum l i (σ i)

  -- "Additions l (one per row, zero or more) are a canon when, after each present order of row i is raised by l of row i, some
  -- complete transversal consists of column maxima."
  pub record Canon (l : ℕ → ℕ) : Type 0 where
    pub columns : ℕ → ℕ
    pub of_maxima : OfMaxima l columns

  -- the least canon from a start: "the canon whose every addition is at most that of every other canon in the same row", among
  -- the canons that are nowhere below the start
  pub record LeastFrom (start l : ℕ → ℕ) : Type 0 where
    pub canon : Canon l
    pub from_start : AtMost n start l
    pub least : (m : ℕ → ℕ) → Canon m → AtMost n start m → AtMost n l m

  -- "The simplest canon": the least from zeros
  abbrev pub Simplest : (ℕ → ℕ) → Type 0
  Simplest l = LeastFrom (λ i. 0) l

  -- "A column's head is the largest raised order in it."
  pub record Head (l : ℕ → ℕ) (j : ℕ) (h : ℤ) : Type 0 where
    pub row : ℕ
    pub inside : row < n
    pub maximum : Maximum l row j
    pub is : h ≡ raised l row j

  -- h is column by column the head
  abbrev pub Heads : (ℕ → ℕ) → (ℕ → ℤ) → Type 0
  Heads l h = (j : ℕ) → j < n → Head l j (h j)

  -- ---- document 02, request 1: "Finding a column's head must also tell the lowest row that holds it and how many rows do."
  -- "the lowest row that holds it": row i holds a maximum of column j, and no row with a lower number does
  pub record LowestHolder (l : ℕ → ℕ) (j i : ℕ) : Type 0 where
    pub inside : i < n
    pub maximum : Maximum l i j
    pub lowest : (k : ℕ) → k < i → Maximum l k j → ⊥

  -- "how many rows do": c rows hold a maximum of column j
  abbrev pub Holders : (ℕ → ℕ) → ℕ → ℕ → Type 0
  Holders l j c = Count (λ i. Maximum l i j) n c

  -- "a column with no present order"
  abbrev pub EmptyColumn : ℕ → Type 0
  EmptyColumn j = (i : ℕ) → i < n → Present (a i j) → ⊥

  -- the head of column j, the row, numbered from 1, and the count. "In a column with no present order head, count and row are 0."
  pub data ColumnHead (l : ℕ → ℕ) (j : ℕ) (h : ℤ) (row count : ℕ) : Type 0 where
    held : (i : ℕ) → LowestHolder l j i → h ≡ raised l i j → row ≡ i + 1 → Holders l j count → ColumnHead l j h row count
    empty : EmptyColumn j → h ≡ pos 0 → row ≡ 0 → count ≡ 0 → ColumnHead l j h row count

  -- "a section `ties N` .., one count a column"
  abbrev pub Ties : (ℕ → ℕ) → (ℕ → ℕ) → Type 0
  Ties l c = (j : ℕ) → j < n → Holders l j (c j)

  -- σ comes before τ "when its columns are written for row 1, row 2 and so on, and compared from the left"
  pub record Before (σ τ : ℕ → ℕ) : Type 0 where
    pub row : ℕ
    pub inside : row < n
    pub same : (i : ℕ) → i < row → σ i ≡ τ i
    pub smaller : σ row < τ row

  -- "The stars are the complete transversal of column maxima that comes first": none of them comes before it
  pub record Stars (l σ : ℕ → ℕ) : Type 0 where
    pub of_maxima : OfMaxima l σ
    pub first : (τ : ℕ → ℕ) → OfMaxima l τ → Before τ σ → ⊥

  -- "The sum is the total of the starred orders as they stand in the table, before raising."
  abbrev pub sum : (ℕ → ℕ) → ℤ
  sum σ = total n (λ i. a i (σ i))

  -- ---- the index figure: document 02, request 2
  -- "some column head is 0"
  pub record SomeHeadZero (l : ℕ → ℕ) : Type 0 where
    pub column : ℕ
    pub inside : column < n
    pub head : Head l column (pos 0)

  -- "a table with a negative order"
  pub record SomeNegative : Type 0 where
    pub row : ℕ
    pub column : ℕ
    pub row_inside : row < n
    pub column_inside : column < n
    pub negative : Negative (a row column)

  -- "Pryce's structural index .. is the largest addition, plus one when some column head is 0."
  pub data StructuralIndex (l : ℕ → ℕ) (x : ℕ) : Type 0 where
    plus_one : (most : ℕ) → SomeHeadZero l → LargestAddition n l most → x ≡ most + 1 → StructuralIndex l x
    alone : (SomeHeadZero l → ⊥) → LargestAddition n l x → StructuralIndex l x

  -- "From now on the figure follows Pryce, but a table with a negative order keeps the largest addition."
  pub data Index (l : ℕ → ℕ) (x : ℕ) : Type 0 where
    follows : (SomeNegative → ⊥) → StructuralIndex l x → Index l x
    keeps : SomeNegative → LargestAddition n l x → Index l x

  -- "a transversal of greatest sum"
  pub record Greatest (σ : ℕ → ℕ) : Type 0 where
    pub transversal : Transversal σ
    pub greatest : (τ : ℕ → ℕ) → Transversal τ → sum τ ≤ℤ sum σ

  -- refusal 8's "a star lies on an absent place, or the stars' sum isn't the greatest" (where a star is absent the first holds,
  -- whatever the second says)
  pub data Misplaced (σ : ℕ → ℕ) : Type 0 where
    on_absent : (i : ℕ) → i < n → a i (σ i) ≡ absent → Misplaced σ
    exceeded : (τ : ℕ → ℕ) → Transversal τ → sum σ <ℤ sum τ → Misplaced σ

  -- the whole answer of a route: additions, stars, heads and sum
  pub record Solution (start l σ : ℕ → ℕ) (h : ℕ → ℤ) (s : ℤ) : Type 0 where
    pub additions : LeastFrom start l
    pub stars : Stars l σ
    pub heads : Heads l h
    pub is_sum : s ≡ sum σ

  -- demand 3: "the sum is the column maxima less the additions, no complete transversal has a greater one, and one reaches it
  -- exactly when each of its orders, with its row's addition, is its column's maximum"
  pub record Balance (l : ℕ → ℕ) (h : ℕ → ℤ) (s : ℤ) : Type 0 where
    pub heads_less_additions : s ≡ total n h -ℤ pos (totalℕ n l)
    pub none_greater : (τ : ℕ → ℕ) → Transversal τ → sum τ ≤ℤ s
    pub only_maxima_reach : (τ : ℕ → ℕ) → Transversal τ → sum τ ≡ s → (i : ℕ) → i < n → Maximum l i (τ i)
    pub maxima_reach : (τ : ℕ → ℕ) → Transversal τ → ((i : ℕ) → i < n → Maximum l i (τ i)) → sum τ ≡ s
