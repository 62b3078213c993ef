-- How far the growing has come between two insertions.
use Rattle.std.specs.Prelude.{◌≡◌, Bool, false, List, ℕ, ◌+◌, ◌*◌, ◌≤◌, ◌<◌, T, ℤ, ◌≤ℤ◌, Option, MatchOption}
use Rattle.theory.specs.Limits.{row_limit, order_limit, addition_limit}
use Rattle.theory.specs.Lists.{nums, ints, flags}
use Rattle.theory.specs.Table.{Present, entry, WithinLimit}
use Rattle.theory.specs.Canon.{AtMost, NoTransversal, raised, Canon, Head, Heads}
use Rattle.orders.specs.Places.{Square}
use Rattle.orders.specs.Held.{Long}
use Rattle.orders.specs.declared.marks.Marked.{Marked}
use Rattle.gaps.specs.declared.tree.Tree.{Tree}
use Rattle.gaps.specs.Steps.{no_gap}
use Rattle.gaps.specs.declared.raised.Raised.{Raised}
use Rattle.growth.specs.declared.sapling.Sapling.{Sapling}

-- what one insertion adds at most to the largest addition
abbrev pub insertion_rise : ℕ
insertion_rise = 4 * (order_limit * row_limit) + 2 * order_limit

module _ (n : ℕ) (a : ℕ → ℕ → ℤ) where
  -- a present order that, raised, is the head of its column
  pub record Tight (l : ℕ → ℕ) (h : ℕ → ℤ) (i j : ℕ) : Type 0 where
    pub present : Present (a i j)
    pub is : raised n a l i j ≡ h j

  -- column j is unmarked, and row s is tight there
  pub record Free (s : ℕ) (l : ℕ → ℕ) (h : ℕ → ℤ) (ρ : ℕ → ℕ) (j : ℕ) : Type 0 where
    pub unmarked : n ≤ ρ j
    pub tight : Tight l h s j

  -- The marks when the rows below s are inserted: each of these rows has a column, no two the same, and is tight there. The row of
  -- a column is ρ j, n or more where it has none; the column of a row is κ i.
  pub record Marking (s : ℕ) (l : ℕ → ℕ) (h : ℕ → ℤ) (ρ κ : ℕ → ℕ) : Type 0 where
    pub row : (j : ℕ) → j < n → ρ j < n → (ρ j < s) × (κ (ρ j) ≡ j) × Tight l h (ρ j) j
    pub column : (i : ℕ) → i < s → (κ i < n) × (ρ (κ i) ≡ i)

  -- Marks, heads that no raised order exceeds and that are still the first ones in the unmarked columns, and additions that are
  -- nowhere below the start and nowhere above a canon from it.
  pub record Growing (start : ℕ → ℕ) (s : ℕ) (l : ℕ → ℕ) (h : ℕ → ℤ) (ρ κ : ℕ → ℕ) : Type 0 where
    pub marking : Marking s l h ρ κ
    pub under : (i j : ℕ) → i < n → j < n → Present (a i j) → raised n a l i j ≤ℤ h j
    pub first : (j : ℕ) → j < n → n ≤ ρ j → Head n a start j (h j)
    pub from_start : AtMost n start l
    pub least : (m : ℕ → ℕ) → Canon n a m → AtMost n start m → AtMost n l m

  -- The way back from the unmarked column `end` to row s: its giver is a row of the tree and tight there, and so is the giver of
  -- the column of each row of the tree but s. A giver comes before the row of its column in the order in which rows joined.
  pub record WayBack (s : ℕ) (l : ℕ → ℕ) (h : ℕ → ℤ) (ρ κ giver : ℕ → ℕ) (end : ℕ) : Type 0 where
    pub small : n ≤ row_limit
    pub inserted : s < n
    pub marking : Marking s l h ρ κ
    pub tree : ℕ → Bool
    pub rank : ℕ → ℕ
    pub early : (i : ℕ) → i < n → T (tree i) → i ≤ s
    pub inside : end < n
    pub free : n ≤ ρ end
    pub last : (giver end < n) × T (tree (giver end)) × Tight l h (giver end) end
    pub link : (i : ℕ) → i < s → T (tree i)
        → (giver (κ i) < n) × T (tree (giver (κ i))) × Tight l h (giver (κ i)) (κ i) × (rank (giver (κ i)) < rank i)

-- the same of the arrays of the code
abbrev pub FreeIn : List ℤ → ℕ → ℕ → Sapling → ℕ → Type 0
FreeIn t n s g j = (j < n) × Free n (entry t n) s (nums g.raised.additions) (ints g.raised.heads) (nums g.marks.rows) j

-- some way back
pub record SomeWay (s end : ℕ) (givers : List ℕ) (m : Marked) : Type 0 where
  pub n : ℕ
  pub a : ℕ → ℕ → ℤ
  pub l : ℕ → ℕ
  pub h : ℕ → ℤ
  pub way : WayBack n a s l h (nums m.rows) (nums m.columns) (nums givers) end

-- the marks after every such way back was gone: row s has its mark too, and no column has lost its own
pub record Flipped (s end : ℕ) (givers : List ℕ) (m m' : Marked) : Type 0 where
  pub marking : (n : ℕ) (a : ℕ → ℕ → ℤ) (l : ℕ → ℕ) (h : ℕ → ℤ) → WayBack n a s l h (nums m.rows) (nums m.columns) (nums givers) end
      → Marking n a (s + 1) l h (nums m'.rows) (nums m'.columns)
  pub unmarked : (n : ℕ) (a : ℕ → ℕ → ℤ) (l : ℕ → ℕ) (h : ℕ → ℤ) → WayBack n a s l h (nums m.rows) (nums m.columns) (nums givers) end
      → (j : ℕ) → j < n → n ≤ nums m'.rows j → n ≤ nums m.rows j

-- what the code holds when the rows below s are inserted, with no addition beyond what s insertions can make of one handed in
pub record Ready (t : List ℤ) (n : ℕ) (start : ℕ → ℕ) (s : ℕ) (r : Raised) (m : Marked) : Type 0 where
  pub square : Square t n
  pub orders : WithinLimit order_limit n (entry t n)
  pub handed_in : (i : ℕ) → i < n → start i ≤ addition_limit
  pub growing : Growing n (entry t n) start s (nums r.additions) (ints r.heads) (nums m.rows) (nums m.columns)
  pub top : (i : ℕ) → i < n → nums r.additions i ≤ addition_limit + s * insertion_rise

-- ready to insert row s, from some start
pub record SomeReady (t : List ℤ) (n s : ℕ) (g : Sapling) : Type 0 where
  pub start : ℕ → ℕ
  pub ready : Ready t n start s g.raised g.marks

-- a tree with no row yet
pub record Bare (w : Tree) : Type 0 where
  pub rows : (i : ℕ) → i < row_limit → flags w.rows i ≡ false
  pub reached : (j : ℕ) → j < row_limit → flags w.reached j ≡ false
  pub gaps : (j : ℕ) → j < row_limit → nums w.gaps j ≡ no_gap

-- the additions and the heads have risen so far that there is a way back from the column `end` to row s
pub record Meeting (t : List ℤ) (n : ℕ) (start : ℕ → ℕ) (s : ℕ) (r : Raised) (m : Marked) (givers : List ℕ) (end : ℕ) : Type 0 where
  pub growing : Growing n (entry t n) start s (nums r.additions) (ints r.heads) (nums m.rows) (nums m.columns)
  pub way : WayBack n (entry t n) s (nums r.additions) (ints r.heads) (nums m.rows) (nums m.columns) (nums givers) end
  pub top : (i : ℕ) → i < n → nums r.additions i ≤ addition_limit + (s + 1) * insertion_rise

-- such a column is met, from whatever start; or there is no complete transversal
abbrev pub Met : List ℤ → ℕ → ℕ → Sapling → Sapling → List ℕ → Option ℕ → Type 0
Met t n s g g' givers e =
    MatchOption e (NoTransversal n (entry t n))
    (λ end. (start : ℕ → ℕ) → Ready t n start s g.raised g.marks → Meeting t n start s g'.raised g'.marks givers end)

-- the rows from s on and below s' are inserted, from whatever start; or there is no complete transversal
abbrev pub Inserted : List ℤ → ℕ → ℕ → ℕ → Sapling → Sapling → Option (Unit {0}) → Type 0
Inserted t n s s' g g' r =
    MatchOption r (NoTransversal n (entry t n))
    (λ x. (start : ℕ → ℕ) → Ready t n start s g.raised g.marks → Ready t n start s' g'.raised g'.marks)

-- the heads of all columns under the start; or a column has no order, and so there is no complete transversal
abbrev pub FirstOf : List ℤ → ℕ → List ℕ → Option (List ℤ) → Type 0
FirstOf t n start r = MatchOption r (NoTransversal n (entry t n)) (λ h. Long h × Heads n (entry t n) (nums start) (ints h))
