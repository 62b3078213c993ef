-- The steps of an insertion: a gap and its giver, the least gap, a rise.
use Rattle.std.specs.Prelude.{◌≡◌, Bool, true, false, cond, List, ◌⊎◌, ℕ, ◌+◌, ◌*◌, ◌≤◌, ◌<◌, ℤ, pos, ◌+ℤ◌, ◌≤ℤ◌, Option, MatchOption, slice_set}
use Rattle.std.specs.Int.Signed.{mag}
use Rattle.theory.specs.Limits.{order_limit, row_limit}
use Rattle.theory.specs.Lists.{nums, ints, flags}
use Rattle.theory.specs.Table.{Present, entry}
use Rattle.orders.specs.Places.{ceiling}
use Rattle.gaps.specs.declared.LeastGap.{LeastGap}
use Rattle.gaps.specs.declared.raised.Raised.{Raised}
use Rattle.gaps.specs.declared.tree.Tree.{Tree}

-- what stands for the gap of a column in which no row of the tree has an order; a gap is below it
abbrev pub no_gap : ℕ
no_gap = 4294967295

-- an order v, if it is present, in a row with the addition l and a column with the head h: all small enough to be reckoned with
pub record Reckonable (v : ℤ) (l : ℕ) (h : ℤ) : Type 0 where
  pub addition : l ≤ ceiling
  pub head : mag h ≤ ceiling + order_limit
  pub below : Present v → (v +ℤ pos l) ≤ℤ h

-- The way with the gap g' from the row p' is the nearer of the way with the gap g from the row p, and of the way from `row`, whose
-- order is v: it is one of the two, and no farther than either.
pub record Nearer (v : ℤ) (l : ℕ) (h : ℤ) (row g p g' p' : ℕ) : Type 0 where
  pub one : ((g' ≡ g) × (p' ≡ p)) ⊎ (Present v × (p' ≡ row) × (v +ℤ pos (l + g') ≡ h))
  pub that : g' ≤ g
  pub this : Present v → (g' < no_gap) × ((v +ℤ pos (l + g')) ≤ℤ h)

-- r is the lesser of a least gap and the gap g of column j (which of two that are the same only saves time)
pub record Lesser (least : LeastGap) (g j : ℕ) (r : LeastGap) : Type 0 where
  pub one : (r ≡ least) ⊎ ((r.gap ≡ g) × (r.column ≡ j))
  pub that : r.gap ≤ least.gap
  pub this : r.gap ≤ g

-- what is known of a row that joins the tree: its gaps can be reckoned
pub record Joining (t : List ℤ) (n row : ℕ) (r : Raised) : Type 0 where
  pub inside : row < n
  pub reckonable : (j : ℕ) → j < n → Reckonable (entry t n row j) (nums r.additions row) (ints r.heads j)

-- the least gap of the unreached ones of n columns, and a column that has it
pub record LeastOf (n : ℕ) (w : Tree) (b : LeastGap) : Type 0 where
  pub gap : b.gap < no_gap
  pub column : b.column < n
  pub unreached : flags w.reached b.column ≡ false
  pub is : nums w.gaps b.column ≡ b.gap
  pub least : (j : ℕ) → j < n → flags w.reached j ≡ false → b.gap ≤ nums w.gaps j

-- no unreached one of n columns has a gap
abbrev pub Walled : ℕ → Tree → Type 0
Walled n w = (j : ℕ) → j < n → flags w.reached j ≡ false → no_gap ≤ nums w.gaps j

-- The row is in the tree; the ways into the n columns, of which those reached are as they were and the others take the row in; and the
-- least gap of the others, if one has a gap.
pub record LookedAt (t : List ℤ) (n row : ℕ) (r : Raised) (w w' : Tree) (b : Option LeastGap) : Type 0 where
  pub ways : (j : ℕ) → j < n → flags w.reached j ≡ false
      → Nearer (entry t n row j) (nums r.additions row) (ints r.heads j) row (nums w.gaps j) (nums w.givers j) (nums w'.gaps j) (nums w'.givers j)
  pub kept : (j : ℕ) → j < n → flags w.reached j ≡ true → (nums w'.gaps j ≡ nums w.gaps j) × (nums w'.givers j ≡ nums w.givers j)
  pub joined : w'.rows ≡ slice_set w.rows row true
  pub reached : w'.reached ≡ w.reached
  pub least : MatchOption b (Walled n w') (LeastOf n w')

-- what a row or a column gets of a rise by δ: all of it, or nothing
abbrev pub share : ℕ → Bool → ℕ
share δ taken = cond taken δ 0

-- the gap g' is g narrowed by δ, if g is a gap
pub record Narrowed (δ g g' : ℕ) : Type 0 where
  pub kept : g ≡ no_gap → g' ≡ no_gap
  pub less : g < no_gap → g' + δ ≡ g

-- a rise by δ that can be reckoned and leaves no gap below 0
pub record Rising (n δ : ℕ) (r : Raised) (gaps : List ℕ) : Type 0 where
  pub small : n ≤ row_limit
  pub rise : δ ≤ 2 * ceiling
  pub additions : (i : ℕ) → i < n → nums r.additions i ≤ ceiling
  pub heads : (j : ℕ) → j < n → mag (ints r.heads j) ≤ ceiling + order_limit
  pub gap : (j : ℕ) → j < n → nums gaps j < no_gap → δ ≤ nums gaps j

-- the first k rows and columns after the rise: those of the tree are raised, the gaps narrowed
pub record RisenBy (k δ : ℕ) (w : Tree) (r : Raised) (w' : Tree) (r' : Raised) : Type 0 where
  pub addition : (i : ℕ) → i < k → nums r'.additions i ≡ nums r.additions i + share δ (flags w.rows i)
  pub head : (j : ℕ) → j < k → ints r'.heads j ≡ ints r.heads j +ℤ pos (share δ (flags w.reached j))
  pub gap : (j : ℕ) → j < k → Narrowed δ (nums w.gaps j) (nums w'.gaps j)
  pub same : (w'.rows ≡ w.rows) × (w'.reached ≡ w.reached) × (w'.givers ≡ w.givers)
