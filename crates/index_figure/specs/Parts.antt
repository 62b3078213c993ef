-- What the functions inside tell each other, over the lists that are lent.
use Rattle.std.specs.Prelude.{◌≡◌, List, ℕ, ◌*◌, ◌≤◌, ◌<◌, ℤ, pos, length}
use Rattle.theory.specs.Lists.{nums, ints}
use Rattle.theory.specs.Table.{Negative, entry}
use Rattle.theory.specs.Canon.{LargestAddition, Heads, Index}
use Rattle.orders.specs.Places.{UnderCeiling}

-- r is the largest of the additions l
abbrev pub Largest : List ℕ → ℕ → Type 0
Largest l r = LargestAddition (length l) (nums l) r

-- some entry of the table t is a negative order
abbrev pub NegativeIn : List ℤ → Type 0
NegativeIn t = (k : ℕ) × (k < length t) × Negative (ints t k)

-- some of the heads h is 0
abbrev pub ZeroIn : List ℤ → Type 0
ZeroIn h = (j : ℕ) × (j < length h) × (ints h j ≡ pos 0)

-- what the figure has beyond the largest addition: 1 where no order of t is negative and some of the heads h is 0
pub data Beyond (t h : List ℤ) (r : ℕ) : Type 0 where
  kept : NegativeIn t → r ≡ 0 → Beyond t h r
  one : (NegativeIn t → ⊥) → ZeroIn h → r ≡ 1 → Beyond t h r
  none : (NegativeIn t → ⊥) → (ZeroIn h → ⊥) → r ≡ 0 → Beyond t h r

-- what the figure is worked out from: a table of some rows, additions under the ceiling, and the heads under them
pub record HeadsKnown (t : List ℤ) (l : List ℕ) (h : List ℤ) : Type 0 where
  pub some : 1 ≤ length l
  pub square : length t ≡ length l * length l
  pub heads_long : length h ≡ length l
  pub heads : Heads (length l) (entry t (length l)) (nums l) (ints h)
  pub low : UnderCeiling (length l) l

-- r is the index figure of the table t under the additions l
abbrev pub IndexOf : List ℤ → List ℕ → ℕ → Type 0
IndexOf t l r = Index (length l) (entry t (length l)) (nums l) r
