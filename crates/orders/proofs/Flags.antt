-- Flags that are set one after the other: how many are still unset, as a measure. Assumes nothing.
use mathlib.Core.Path.{◌≡◌, refl, sym, ◌∙◌, ap}
use mathlib.Core.Logic.{◌⊎◌, inl, inr}
use mathlib.Core.Bool.{Bool, true, false, cond}
use mathlib.Core.List.{List}
use Prim.Native.Nat.{ℕ, zero, suc, ◌≤◌, ◌<◌, ◌+◌}
use native.Mathlib.Decide.{ℕ_discrete}
use native.Mathlib.Omega.{arith}
use lib.ListN.{get_or, set, replicate}
use lib.Seq.{get_or-set_other}
use Rattle.theory.specs.Lists.{flags}
use Rattle.theory.specs.Totals.{totalℕ}
use Rattle.theory.proofs.Totals.{total_bound, total_change}
use Rattle.orders.proofs.Stores.{Put}

-- a fresh array has its one value everywhere, also past its end if that is what a read there gives
pub fresh : {X : Type 0} (m i : ℕ) (d : X) → get_or (replicate m d) i d ≡ d
fresh zero i d = refl
fresh (suc m) zero d = refl
fresh (suc m) (suc i) d = fresh m i d

-- no flag of a fresh array is set
pub all_unset : (m i : ℕ) → flags (replicate m false) i ≡ false
all_unset m i = fresh m i false

-- a flag that is set once flag k is: k's own, or one that was
pub set_flag : (f : List Bool) (k i : ℕ) → flags (set f k true) i ≡ true → (i ≡ k) ⊎ (flags f i ≡ true)
set_flag f k i e = elim (ℕ_discrete i k) [ yes d ↦ inl d | no ne ↦ inr (sym (get_or-set_other f k i true false ne) ∙ e) ]

-- 1 for an unset flag, 0 for a set one
abbrev weight : Bool → ℕ
weight b = cond b 0 1

-- how many of the first n flags are unset
pub unset : ℕ → (ℕ → Bool) → ℕ
unset n f = totalℕ n (λ i. weight (f i))

pub unset_most : (n : ℕ) (f : ℕ → Bool) → unset n f ≤ n
unfolding unset
unset_most n f = omega (arith, total_bound n 1 (λ i. weight (f i)) (λ i h. at_most (f i)))
  where
    at_most : (b : Bool) → weight b ≤ 1
    at_most true = omega arith
    at_most false = omega arith

-- setting an unset flag leaves one fewer
pub unset_fewer : (n : ℕ) {f f' : ℕ → Bool} {k : ℕ} → k < n → f k ≡ false → Put f f' k true → unset n f' + 1 ≡ unset n f
unfolding unset
unset_fewer n {f} {f'} {k} h e p =
    omega (
      arith,
      total_change n (λ i. weight (f i)) (λ i. weight (f' i)) k h (λ x hx ne. ap weight (p.off x ne)),
      ap weight e,
      ap weight p.at,
    )
