-- What growing from additions and lowering tell of them. Assumes nothing.
use mathlib.Core.Path.{◌≡◌, refl, sym, ◌∙◌, ap}
use mathlib.Core.Logic.{inl, inr}
use mathlib.Core.Bool.{Bool, true}
use mathlib.Core.List.{List}
use Prim.Native.Nat.{ℕ, ◌≤◌, ◌<◌}
use native.Mathlib.Omega.{arith}
use lib.Dec.{eqb}
use lib.IntN.{ℤ}
use lib.ListN.{length, take, replicate}
use lib.Pointwise.{pointwise}
use Rattle.std.specs.Prelude.{Ok, Err}
use Rattle.std.proofs.lemmas.Bool.Decides.{Decides-eqb}
use Rattle.std.proofs.lemmas.Grind.{same_number_lists}
use Rattle.std.proofs.lemmas.List.{get_or-take, length-take-le}
use Rattle.std.proofs.lemmas.Slice.Eq.{slice_eq-Decides}
use Rattle.theory.specs.Limits.{row_limit}
use Rattle.theory.specs.Lists.{nums}
use Rattle.theory.specs.Table.{entry}
use Rattle.theory.specs.Canon.{Canon, Simplest}
use Rattle.theory.proofs.Unique.{canon_same, least_same, least_once}
use Rattle.orders.specs.Tested.{Tells}
use Rattle.orders.specs.Places.{Marks}
use Rattle.orders.specs.Held.{LeastBy}
use Rattle.orders.specs.declared.Refusal.TheVariants.{NoCanon}
use Rattle.orders.proofs.Entries.{clash}
use Rattle.orders.proofs.Zeros.{zero_start, zero_least}
use Rattle.lowering.specs.Descent.{CanonGiven}
use Rattle.routes.specs.Routes.{ReducedFrom, Reduces}
use Rattle.routes.specs.declared.Reduced.{Reduced}

-- the first n additions of two lists are the same
pub record Same (n : ℕ) (l m : List ℕ) : Type 0 where
  pub each : (i : ℕ) → i < n → nums l i ≡ nums m i

-- what `==` tells of an array's first n additions and of n lent ones
pub same_told : {n : ℕ} (l given : List ℕ) (b : Bool) → n ≤ length l → length given ≡ n → b ≡ pointwise eqb (take n l) given
    → Tells b (Same n l given)
same_told {n} l given b fits long e =
    record { holds = λ q. record { each = λ i hi. same (told.0 q) i hi }; fails = λ q s. clash (told.1 (one s)) q }
  where
    told : (b ≡ true → take n l ≡ given) × (take n l ≡ given → b ≡ true)
    told = slice_eq-Decides Decides-eqb _ _ _ e

    same : take n l ≡ given → (i : ℕ) → i < n → nums l i ≡ nums given i
    same p i hi = sym (get_or-take n l i 0 hi) ∙ ap (λ x. nums x i) p

    one : Same n l given → take n l ≡ given
    one s =
        same_number_lists (take n l) given (length-take-le n l fits ∙ sym long)
        (λ i hi. let lt : i < n = omega (arith, length-take-le n l fits) in get_or-take n l i 0 lt ∙ s.each i lt)

module _ {t : List ℤ} {n : ℕ} {given start : List ℕ} (kept : Same n start given) {l columns : List ℕ}
    (w : LeastBy t n (nums start) l columns) where
  -- a canon is the least from itself, so growing changes nothing in it
  unmoved : Canon n (entry t n) (nums given) → Same n l given
  unmoved c = record {
    each = λ i hi.
        let own = canon_same n (entry t n) (λ i hi. sym (kept.each i hi)) c in
        omega (arith, kept.each i hi, w.least.from_start i hi, w.least.least (nums start) own (λ i hi. omega arith) i hi);
  }

  pub reduced_moved : (Same n l given → ⊥) → ReducedFrom t n given (Err NoCanon)
  reduced_moved moved =
      record {
        reduced = λ x e. cc;
        refused = λ q e.
            let h : NoCanon ≡ q = cc in
            rw (sym h) (inr ((λ none. none _ w.canon.of_maxima.transversal), inl ((λ c. moved (unmoved c)), refl)), refl);
        exists = λ e. (nums columns, w.canon.of_maxima.transversal);
      }

  pub canon_given : CanonGiven t n columns l (replicate row_limit 0)
  canon_given = record { canon_by = w.canon; not_below = λ i hi. zero_start _ i }

  -- the least canon, and whether it is what was handed in
  pub reduced_canon : (x : Reduced) → Same n l given → Marks n (nums x.marks.rows) (nums x.marks.columns)
      → LeastBy t n (nums (replicate row_limit 0)) x.additions x.marks.columns → Tells x.unchanged (Same n x.additions given)
      → ReducedFrom t n given (Ok x)
  reduced_canon x same marks low told =
      record { reduced = λ y e. let h : x ≡ y = cc in rw (sym h) reduces; refused = λ q e. cc; exists = λ e. cc }
    where
      simplest : Simplest n (entry t n) (nums x.additions)
      simplest = (zero_least low).least

      reduces : Reduces t n given x
      reduces =
          record {
            is_canon = canon_same n (entry t n) same.each w.least.canon;
            least = zero_least low;
            marks = marks;
            judged = record {
              holds = λ b. least_same n (entry t n) (told.holds b).each simplest;
              fails = λ b s. told.fails b (record { each = least_once n (entry t n) simplest s });
            };
          }
