-- What is copied out of the whole answer. Assumes nothing.
use mathlib.Core.Path.{◌≡◌, sym, ◌∙◌, ap}
use mathlib.Core.List.{List}
use Prim.Native.Nat.{ℕ, ◌-◌, ◌≤◌, ◌<◌, min}
use native.Mathlib.Omega.{arith}
use lib.IntN.{ℤ, pos}
use lib.ListN.{length, take, length-take}
use lib.Seq.{get_or-take}
use Rattle.theory.specs.Limits.{row_limit}
use Rattle.theory.specs.Lists.{nums, columns, StarList}
use Rattle.theory.specs.Table.{entry}
use Rattle.theory.specs.Canon.{Stars}
use Rattle.theory.proofs.Unique.{stars_rows, sum_same}
use Rattle.outcome.specs.Completion.{Slices, WholeAnswerOf, HandedOut, Delivered}
use Rattle.outcome.specs.declared.WholeAnswer.{WholeAnswer}
use Rattle.orders.specs.Held.{Long}

-- stars from 1 whose columns, from 0, are those of the first transversal are a star list
pub star_list : {n : ℕ} {a : ℕ → ℕ → ℤ} {l : ℕ → ℕ} {s : List ℕ} → length s ≡ n → ((i : ℕ) → i < n → 1 ≤ nums s i) → Stars n a l (columns s)
    → StarList n s
star_list long one st =
    let t = st.of_maxima.transversal in
    record {
      long = long;
      from_one = one;
      to_size = λ i hi. omega (arith, one i hi, t.inside i hi);
      none_twice = λ i k hi hk e. t.apart i k hi hk (ap (λ (x : ℕ). x - 1) e);
    }

-- as many as the slice has places are copied
pub cut : {X : Type 0} {n : ℕ} (lent from : List X) → n ≤ row_limit → length lent ≡ n → Long from → length (take (length lent) from) ≡ n
cut {X} {n} lent from small p q = length-take (length lent) from ∙ least
  where
    least : min (length lent) (length from) ≡ n
    least = omega arith

pub delivery : {t : List ℤ} {n : ℕ} {l adds stars : List ℕ} {heads : List ℤ} {w : WholeAnswer} {adds' stars' : List ℕ} {heads' : List ℤ}
    → n ≤ row_limit → Slices n adds stars heads → Long w.additions → Long w.stars → Long w.heads
    → WholeAnswerOf t n l w → HandedOut w adds stars heads adds' stars' heads' → Delivered t n l w.sum adds' stars' heads'
delivery {t} {n} {l} {adds} {stars} {heads} {w} {adds'} {stars'} {heads'} small lent wide_adds wide_stars wide_heads whole out =
    record {
      adds_long = ap length out.adds_are ∙ cut adds w.additions small lent.adds_long wide_adds;
      adds_are = λ i hi.
          ap (λ (x : List ℕ). nums x i) (sym whole.same) ∙ sym (get_or-take (length adds) w.additions i 0 (omega (arith, lent.adds_long)))
          ∙ ap (λ (x : List ℕ). nums x i) (sym out.adds_are);
      star_list = star_list (ap length out.stars_are ∙ cut stars w.stars small lent.stars_long wide_stars)
          (λ i hi. rw (← (same_stars i hi)) (whole.from_one i hi)) first;
      stars_are = first;
      heads_long = ap length out.heads_are ∙ cut heads w.heads small lent.heads_long wide_heads;
      heads_are = λ j hj.
          rw (out.heads_are, get_or-take (length heads) w.heads j (pos 0) (omega (arith, lent.heads_long))) (whole.heads j hj);
      is_sum = whole.is_sum ∙ sum_same n (entry t n) (λ i hi. ap (λ (x : ℕ). x - 1) (same_stars i hi));
    }
  where
    same_stars : (i : ℕ) → i < n → nums w.stars i ≡ nums stars' i
    same_stars i hi = rw (out.stars_are, get_or-take (length stars) w.stars i 0 (omega (arith, lent.stars_long)))

    first : Stars n (entry t n) (nums l) (columns stars')
    first = stars_rows n (entry t n) (λ i hi. ap (λ (x : ℕ). x - 1) (same_stars i hi)) whole.stars
