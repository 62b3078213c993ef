-- What the rounds of route 3 and growth from zeros tell of a transversal. Assumes nothing.
use mathlib.Core.Path.{◌≡◌, refl, sym}
use mathlib.Core.Logic.{◌⊎◌, inl, inr}
use mathlib.Core.Bool.{Bool, true, false}
use mathlib.Core.List.{List}
use Prim.Native.Nat.{ℕ, ◌<◌}
use native.Mathlib.Omega.{arith}
use lib.IntN.{ℤ, ℤ_discrete}
use lib.ListN.{replicate}
use lib.Signed.{lt_z}
use Rattle.std.specs.Prelude.{Option, None, Ok, Err}
use Rattle.theory.specs.Limits.{row_limit}
use Rattle.theory.specs.Lists.{nums}
use Rattle.theory.specs.Table.{absent, Present, entry}
use Rattle.theory.specs.Canon.{Transversal, Greatest, Misplaced, on_absent, exceeded, sum}
use Rattle.theory.proofs.Pigeonhole.{exists}
use Rattle.theory.proofs.Signed.{signed}
use Rattle.theory.proofs.Duality.{maxima_greatest}
use Rattle.orders.specs.Places.{Square}
use Rattle.orders.specs.Held.{Startable, LeastBy}
use Rattle.orders.specs.declared.Refusal.TheVariants.{NotGreatest}
use Rattle.orders.proofs.Zeros.{zero_start, zero_least}
use Rattle.raising.specs.Climbed.{Climbed}
use Rattle.routes.specs.Routes.{GivenColumns, RaisedFrom, Raises}

module _ (n : ℕ) (a : ℕ → ℕ → ℤ) where
  -- a transversal whose places are not all present has one on an absent place
  some_absent : (σ : ℕ → ℕ) → (((i : ℕ) → i < n → Present (a i (σ i))) → ⊥) → Misplaced n a σ
  some_absent σ f = go (exists (λ i. a i (σ i) ≡ absent) (λ i. ℤ_discrete (a i (σ i)) absent) n)
    where
      go : ((i : ℕ) × (i < n) × (a i (σ i) ≡ absent)) ⊎ ((i : ℕ) → i < n → a i (σ i) ≡ absent → ⊥) → Misplaced n a σ
      go (inl (i, hi, e)) = on_absent i hi e
      go (inr none) = absurd (f none)

  -- one that has not the greatest sum is exceeded by any that has
  not_greatest : {σ τ : ℕ → ℕ} → Transversal n a σ → Greatest n a τ → (Greatest n a σ → ⊥) → Misplaced n a σ
  not_greatest {σ} {τ} t g f = go (lt_z (sum n a σ) (sum n a τ)) refl
    where
      go : (b : Bool) → lt_z (sum n a σ) (sum n a τ) ≡ b → Misplaced n a σ
      go true e = exceeded τ g.transversal (omega (arith, signed))
      go false e = absurd (f (record { transversal = t; greatest = λ ρ r. omega (arith, signed, g.greatest ρ r) }))

  -- and one of the greatest sum is not misplaced
  well_placed : {σ : ℕ → ℕ} → Greatest n a σ → Misplaced n a σ → ⊥
  well_placed g (on_absent i hi e) = g.transversal.present i hi e
  well_placed {σ} g (exceeded τ t lt) = omega (arith, signed, g.greatest τ t)

module _ {t : List ℤ} {n : ℕ} {column_of : List ℕ} where
  pub from_zeros : GivenColumns t n column_of → Square t n → Startable t n (replicate row_limit 0)
  from_zeros g sq = record { square = sq; entries = g.entries; handed_in = λ i hi. zero_start _ i }

  pub transversal_of : GivenColumns t n column_of → ((i : ℕ) → i < n → Present (entry t n i (nums column_of i)))
      → Transversal n (entry t n) (nums column_of)
  transversal_of g p = record { inside = g.inside; present = p; apart = g.apart }

  -- the rounds ended
  pub raised_ended : {l : List ℕ} → LeastBy t n (nums (replicate row_limit 0)) l column_of → RaisedFrom t n column_of (Ok l)
  raised_ended {l} w = record { raised = λ m e. let h : l ≡ m = cc in rw (sym h) raises; refused = λ q e. cc; exists = λ e. cc }
    where
      raises : Raises t n column_of l
      raises = record { placed = well_placed n (entry t n) (maxima_greatest n (entry t n) w.canon.of_maxima); least = zero_least w }

  -- they did not, or a place is absent: growth from zeros tells whether there is a transversal at all
  module _ {l columns : List ℕ} (w : LeastBy t n (nums (replicate row_limit 0)) l columns) where
    refused_for : Misplaced n (entry t n) (nums column_of) → RaisedFrom t n column_of (Err NotGreatest)
    refused_for wrong =
        record {
          raised = λ m e. cc;
          refused = λ q e.
              let h : NotGreatest ≡ q = cc in
              rw (sym h) (inr ((λ none. none _ w.canon.of_maxima.transversal), inl (wrong, refl)), refl);
          exists = λ e. (nums columns, w.canon.of_maxima.transversal);
        }

    pub raised_endless : {r : Option (List ℕ)} → Climbed t n (replicate row_limit 0) column_of r → r ≡ None
        → Transversal n (entry t n) (nums column_of) → RaisedFrom t n column_of (Err NotGreatest)
    raised_endless c e tr =
        refused_for (not_greatest n (entry t n) tr (maxima_greatest n (entry t n) w.canon.of_maxima) (c.exceeded e (nums l) w.least))

    pub raised_absent : (((i : ℕ) → i < n → Present (entry t n i (nums column_of i))) → ⊥) → RaisedFrom t n column_of (Err NotGreatest)
    raised_absent f = refused_for (some_absent n (entry t n) (nums column_of) f)
