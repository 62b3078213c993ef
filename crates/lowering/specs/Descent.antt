-- From a canon down to the least (001, "What precedes contains the solution"): rows are settled one after the other. Every
-- unsettled row falls by the least amount by which one of them reaches its floor or touches a settled row.
use Rattle.std.specs.Prelude.{◌≡◌, Bool, true, false, List, slice_set, Option, Some, None, ℕ, ◌+◌, ◌≤◌, ◌<◌, ℤ, pos, ◌+ℤ◌, ◌≤ℤ◌}
use Rattle.theory.specs.Lists.{nums, flags}
use Rattle.theory.specs.Table.{Present}
use Rattle.theory.specs.Canon.{AtMost}
use Rattle.orders.specs.Held.{CanonBy}
use Rattle.lowering.specs.declared.rows.Rows.{Rows}

-- k is, of the first m rows, an unsettled one with the least amount to fall to its floor, and d is that amount
pub record LeastOf (m : ℕ) (rows : Rows) (k d : ℕ) : Type 0 where
  pub inside : k < m
  pub unsettled : flags rows.settled k ≡ false
  pub amount : d + nums rows.floors k ≡ nums rows.additions k
  pub least : (i : ℕ) → i < m → flags rows.settled i ≡ false → d + nums rows.floors i ≤ nums rows.additions i

-- r is such a row with its amount, or none where all of the m rows are settled
pub record LeastSlack (m : ℕ) (rows : Rows) (r : Option (ℕ × ℕ)) : Type 0 where
  pub found : (x : ℕ × ℕ) → r ≡ Some x → LeastOf m rows x.0 x.1
  pub none : r ≡ None → (i : ℕ) → i < m → flags rows.settled i ≡ true

-- every unsettled row can fall by d
abbrev pub Spare : ℕ → Rows → ℕ → Type 0
Spare n rows d = (i : ℕ) → i < n → flags rows.settled i ≡ false → d ≤ nums rows.additions i

-- what row i has after the fall by d
pub record Fallen (l : ℕ → ℕ) (settled : ℕ → Bool) (d i v : ℕ) : Type 0 where
  pub stays : settled i ≡ true → v ≡ l i
  pub falls : settled i ≡ false → v + d ≡ l i

-- r is the least addition at which `order` is not exceeded by `other`, raised
pub record Pull (other : ℤ) (addition : ℕ) (order : ℤ) (r : ℕ) : Type 0 where
  pub enough : (other +ℤ pos addition) ≤ℤ (order +ℤ pos r)
  pub least : (m : ℕ) → (other +ℤ pos addition) ≤ℤ (order +ℤ pos m) → r ≤ m

-- v is the floor of row i once row k is settled at the addition `settled_at`: the least that is not below its floor before and at
-- which its order in its own column is not exceeded by row k's
pub record PulledAt (a : ℕ → ℕ → ℤ) (column_of floors : ℕ → ℕ) (k settled_at i v : ℕ) : Type 0 where
  pub above : floors i ≤ v
  pub enough : Present (a k (column_of i)) → (a k (column_of i) +ℤ pos settled_at) ≤ℤ (a i (column_of i) +ℤ pos v)
  pub least : (m : ℕ) → floors i ≤ m
      → (Present (a k (column_of i)) → (a k (column_of i) +ℤ pos settled_at) ≤ℤ (a i (column_of i) +ℤ pos m)) → v ≤ m

-- every unsettled row of the n falls by d, and nothing else changes
pub record Falls (n d : ℕ) (old new : Rows) : Type 0 where
  pub fallen : (i : ℕ) → i < n → Fallen (nums old.additions) (flags old.settled) d i (nums new.additions i)
  pub floors : new.floors ≡ old.floors
  pub settled : new.settled ≡ old.settled

-- row k is settled, the floors of the n rows rise by what it holds up, and nothing else changes
pub record Settles (n : ℕ) (a : ℕ → ℕ → ℤ) (column_of : ℕ → ℕ) (k : ℕ) (old new : Rows) : Type 0 where
  pub pulled : (i : ℕ) → i < n → PulledAt a column_of (nums old.floors) k (nums old.additions k) i (nums new.floors i)
  pub additions : new.additions ≡ old.additions
  pub settled : new.settled ≡ slice_set old.settled k true

-- what is handed in: a canon by a transversal, nowhere below the floors
pub record CanonGiven (t : List ℤ) (n : ℕ) (column_of canon floors : List ℕ) : Type 0 where
  pub canon_by : CanonBy t n canon column_of
  pub not_below : AtMost n (nums floors) (nums canon)
