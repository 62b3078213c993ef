-- A store in an array. Assumes nothing.
use mathlib.Core.Path.{◌≡◌}
use mathlib.Core.Bool.{Bool, false}
use mathlib.Core.List.{List}
use mathlib.Core.Logic.{◌≢◌}
use Prim.Native.Nat.{ℕ, ◌<◌}
use native.Mathlib.Decide.{ℕ_discrete}
use lib.IntN.{ℤ, pos}
use lib.ListN.{get_or, length, set}
use lib.Seq.{get_or-set_same, get_or-set_other}
use Rattle.theory.specs.Lists.{nums, ints, flags}

-- f' is f with v at k
pub record Put {X : Type 0} (f f' : ℕ → X) (k : ℕ) (v : X) : Type 0 where
  pub at : f' k ≡ v
  pub off : (x : ℕ) → x ≢ k → f' x ≡ f x

pub put : {X : Type 0} (d : X) (m : List X) (k : ℕ) (v : X) → k < length m → Put (λ x. get_or m x d) (λ x. get_or (set m k v) x d) k v
put d m k v h = record { at = get_or-set_same m k v d h; off = λ x ne. get_or-set_other m k x v d ne }

pub put_nums : (m : List ℕ) (k v : ℕ) → k < length m → Put (nums m) (nums (set m k v)) k v
put_nums m k v h = put 0 m k v h

pub put_ints : (m : List ℤ) (k : ℕ) (v : ℤ) → k < length m → Put (ints m) (ints (set m k v)) k v
put_ints m k v h = put (pos 0) m k v h

pub put_flags : (m : List Bool) (k : ℕ) (v : Bool) → k < length m → Put (flags m) (flags (set m k v)) k v
put_flags m k v h = put false m k v h

-- what holds of v at k and of f elsewhere holds of f'
pub after : {X : Type 0} {f f' : ℕ → X} {k : ℕ} {v : X} (P : ℕ → X → Type 0) → Put f f' k v → (x : ℕ) → (x ≡ k → P k v)
    → (x ≢ k → P x (f x)) → P x (f' x)
after {k = k} P p x new old =
    elim (ℕ_discrete x k) [
      | yes e ↦ rw (e, p.at) (new e)
      | no ne ↦ rw (p.off x ne) (old ne)
    ]
