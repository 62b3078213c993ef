-- The promise of a route, from the answer that was delivered. Assumes nothing.
use mathlib.Core.Path.{◌≡◌}
use mathlib.Core.List.{List}
use Prim.Native.Nat.{ℕ}
use lib.IntN.{ℤ}
use Rattle.theory.specs.Lists.{nums}
use Rattle.theory.specs.Table.{entry}
use Rattle.theory.specs.Canon.{Simplest}
use Rattle.theory.proofs.Unique.{least_same, stars_same, head_same}
use Rattle.orders.specs.Refusals.{Test, Clear, gives, says}
use Rattle.handed.specs.Conditions.{basic}
use Rattle.outcome.specs.Completion.{Delivered}
use Rattle.canon.specs.Answers.{Answer}
use Rattle.canon.specs.Promises.{Routed, answered}
use Rattle.handed.specs.Handed.{Sound}
use Rattle.canon.proofs.Refusing.{past_clear}

-- a call past all its tests, with the simplest canon delivered, keeps the promise
pub routed : {more : List Test} {n : ℕ} {t : List ℤ} {ks : List ℕ} {l : List ℕ} {adds stars adds' stars' : List ℕ} {heads heads' : List ℤ} {s : ℤ} {r : Answer}
    → Sound n t ks → Clear more → says r ≡ gives s → Simplest n (entry t n) (nums l) → Delivered t n l s adds' stars' heads'
    → Routed (basic n t ks more) n t adds stars heads r adds' stars' heads'
routed {more} {n} {t} {s = s} sound clear says simplest d =
    answered s (past_clear sound more clear) says d.adds_long d.star_list d.heads_long
    (record {
      additions = least_same n (entry t n) d.adds_are simplest;
      stars = stars_same n (entry t n) d.adds_are d.stars_are;
      heads = λ j hj. head_same n (entry t n) d.adds_are (d.heads_are j hj);
      is_sum = d.is_sum;
    })
