-- A loop that goes once through an array and sets each element, or lets it stand. P x v says that v is right at x.
-- Assumes nothing.
use mathlib.Core.Path.{◌≡◌, refl, ◌∙◌}
use mathlib.Core.List.{List}
use Prim.Native.Nat.{ℕ, ◌+◌, ◌≤◌, ◌<◌}
use native.Mathlib.Decide.{ℕ_discrete}
use native.Mathlib.Omega.{arith}
use lib.ListN.{length, get_or, set, length-set}
use lib.Seq.{get_or-set_same, get_or-set_other}

-- the first i elements are right, the others are still those of `old`; `d` is what a read past the end gives
pub record Swept {X : Type 0} (d : X) (P : ℕ → X → Type 0) (old new : List X) (i : ℕ) : Type 0 where
  pub done : (x : ℕ) → x < i → P x (get_or new x d)
  pub rest : (x : ℕ) → i ≤ x → get_or new x d ≡ get_or old x d
  pub long : length new ≡ length old

module _ {X : Type 0} (d : X) (P : ℕ → X → Type 0) where
  pub swept_start : (old : List X) → Swept d P old old 0
  swept_start old = record { done = λ x h. absurd (omega arith); rest = λ x h. refl; long = refl }

  pub swept_set : {old new : List X} {i : ℕ} (v : X) → Swept d P old new i → i < length old → P i v → Swept d P old (set new i v) (i + 1)
  swept_set {old} {new} {i} v s h p =
      record {
        done = λ x hx. go x hx (ℕ_discrete x i);
        rest = λ x hx. get_or-set_other new i x v d (omega arith) ∙ s.rest x (omega arith);
        long = length-set new i v ∙ s.long;
      }
    where
      inside : i < length new
      inside = omega (arith, s.long)

      go : (x : ℕ) → x < i + 1 → Dec (x ≡ i) → P x (get_or (set new i v) x d)
      go x hx (yes e) = rw (e, get_or-set_same new i v d inside) p
      go x hx (no ne) = rw (get_or-set_other new i x v d ne) (s.done x (omega arith))

  pub swept_keep : {old new : List X} {i : ℕ} → Swept d P old new i → P i (get_or old i d) → Swept d P old new (i + 1)
  swept_keep {old} {new} {i} s p =
      record { done = λ x hx. go x hx (ℕ_discrete x i); rest = λ x hx. s.rest x (omega arith); long = s.long }
    where
      go : (x : ℕ) → x < i + 1 → Dec (x ≡ i) → P x (get_or new x d)
      go x hx (yes e) = rw (e, s.rest i (omega arith)) p
      go x hx (no ne) = s.done x (omega arith)
