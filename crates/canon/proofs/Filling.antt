-- The promise of the heads of all columns: from what the tests told and the search found. Assumes nothing.
use mathlib.Core.Path.{◌≡◌, refl, ap}
use mathlib.Core.Logic.{inl}
use mathlib.Core.Bool.{Bool, true, false}
use mathlib.Core.List.{List}
use Prim.Native.Nat.{ℕ, ◌<◌}
use native.Mathlib.Omega.{arith}
use lib.IntN.{ℤ}
use lib.ListN.{length, get_or}
use Rattle.std.specs.Prelude.{Result, Ok, Err}
use Rattle.theory.specs.Lists.{nums, ints}
use Rattle.theory.specs.Table.{entry}
use Rattle.theory.proofs.Ties.{column_head_same}
use Rattle.orders.specs.Places.{no_order, TopsOf}
use Rattle.orders.specs.Refusals.{number_of, refuses}
use Rattle.orders.specs.declared.Refusal.{Refusal}
use Rattle.orders.specs.declared.Refusal.TheVariants.{Addition}
use Rattle.orders.specs.declared.table.Top.{Top}
use Rattle.handed.specs.Conditions.{heads_more}
use Rattle.handed.specs.Handed.{Sound, Basic, WithinAs}
use Rattle.handed.proofs.Basics.{additions_right}
use Rattle.canon.specs.Promises.{head_lengths, ColumnHeads, leaves, fills}
use Rattle.canon.proofs.Refusing.{first_of_all, past_first, past_clear}

-- head, row and count of the first k columns stand in the slices
pub record FilledTo (k : ℕ) (tops : List Top) (heads : List ℤ) (rows counts : List ℕ) : Type 0 where
  pub head : (j : ℕ) → j < k → ints heads j ≡ (get_or tops j no_order).head
  pub row : (j : ℕ) → j < k → nums rows j ≡ (get_or tops j no_order).row
  pub count : (j : ℕ) → j < k → nums counts j ≡ (get_or tops j no_order).count

module _ (n : ℕ) (t : List ℤ) (given : List ℕ) (heads : List ℤ) (rows counts : List ℕ) where
  -- a call that refuses by one of the first three tests
  pub leave_first : {r : Result Unit Refusal} → Basic n t (head_lengths given heads rows counts) r → (q : Refusal) → r ≡ Err q
      → ColumnHeads n t given heads rows counts (Err q) heads rows counts
  leave_first b q e =
      let p = b.refused q e in
      leaves (number_of q) (first_of_all n t (head_lengths given heads rows counts) (heads_more given) (number_of q) p.0)
      (ap (refuses (number_of q)) p.1) refl refl refl

  module _ (s : Sound n t (head_lengths given heads rows counts)) {b : Bool} (a : WithinAs given b) where
    -- and by the fourth
    pub leave_addition : b ≡ false → ColumnHeads n t given heads rows counts (Err Addition) heads rows counts
    leave_addition e = leaves 4 (past_first s (heads_more given) 4 (inl (a.above e, refl))) refl refl refl refl

    module _ (low : b ≡ true) (l : List ℕ) (kept : (i : ℕ) → i < length given → nums l i ≡ nums given i) where
      -- the additions as they are held
      same_additions : (i : ℕ) → i < n → nums l i ≡ nums given i
      same_additions i hi = kept i (omega (arith, s.fitting.0))

      -- what was found stands in the slices
      pub filled : {tops : List Top} {heads' : List ℤ} {rows' counts' : List ℕ} → TopsOf t n l tops → FilledTo n tops heads' rows' counts'
          → length heads' ≡ n → length rows' ≡ n → length counts' ≡ n → ColumnHeads n t given heads rows counts (Ok tt) heads' rows' counts'
      filled tops f lh lr lc =
          fills (past_clear s (heads_more given) (additions_right (a.within low), tt)) refl lh lr lc
          (λ j hj. rw (f.head j hj, f.row j hj, f.count j hj) (column_head_same n (entry t n) same_additions (tops j hj)))
