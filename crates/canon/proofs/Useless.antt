-- Document 01's useless programs, each shut out by a theorem: the promise fails for it at a named table of the proved set.
-- Assumes nothing.
use mathlib.Core.Path.{◌≡◌, refl, sym, ◌∙◌, ap}
use mathlib.Core.Bool.{true, false}
use Rattle.std.specs.Prelude.{Ok, Err}
use mathlib.Core.List.{List, [], ◌∷◌}
use Prim.Native.Nat.{ℕ}
use native.Mathlib.Omega.{arith}
use lib.IntN.{ℤ, pos, neg_ℤ}
use lib.ListN.{length}
use Rattle.theory.specs.Lists.{nums, ints, columns, StarList}
use Rattle.theory.specs.Table.{entry}
use Rattle.theory.specs.Canon.{Solution}
use Rattle.theory.specs.Cases.{nothing, pendulum}
use Rattle.theory.proofs.Cases.{cases_right}
use Rattle.orders.specs.Refusals.{gives, says}
use Rattle.orders.specs.declared.Refusal.{Refusal}
use Rattle.orders.proofs.Refusals.{not_both}
use Rattle.canon.specs.Answers.{Answer}
use Rattle.canon.specs.Promises.{refused, answered, Solves, FromCanon, Judges, declines, says_yes, says_no}
use Rattle.canon.proofs.Unique.{One, solved_once}
use Rattle.canon.specs.Demands.{Buffers, buffers, WellFormed, Wanted, Route}
use Rattle.canon.proofs.Theorems.{alone_clear, routed_answers, routed_result}

-- a known solution is what the promise of route 1 leaves open to a call with slices of the wanted length: nothing else
module _ {n : ℕ} {t : List ℤ} {r : Answer} (b b' : Buffers) (l s : List ℕ) (h : List ℤ) (z : ℤ) where
  determined : WellFormed n t → Wanted n b → StarList n s → length l ≡ n → length h ≡ n
      → Solution n (entry t n) (λ i. 0) (nums l) (columns s) (ints h) z → Route n t nothing b r b'
      → One r (Ok z) b'.adds l b'.stars s b'.heads h
  determined w f ls la lh sol p =
      let (x, says) = routed_answers b b' p (alone_clear n t w b f (columns s, sol.stars.of_maxima.transversal)) in
      let v = (routed_result b b' p x says).1 in
      solved_once b'.adds l b'.stars s b'.heads h says refl v.adds_long la v.star_list ls v.heads_long lh v.solution sol

-- ---- `5 0 / 5 0`: additions 0 0, stars 1 2, heads 5 0, sum 5
abbrev fives : List ℤ
fives = pos 5 ∷ pos 0 ∷ pos 5 ∷ pos 0 ∷ []

-- `1 0 / 2 0`: additions 0 0, stars 2 1, heads 2 0, sum 2
abbrev ones : List ℤ
ones = pos 1 ∷ pos 0 ∷ pos 2 ∷ pos 0 ∷ []

module _ {adds stars : List ℕ} {heads : List ℤ} {r : Answer} {adds' stars' : List ℕ} {heads' : List ℤ} (f : Wanted 2 (buffers adds stars heads)) where
  at_fives : Solves 2 fives adds stars heads r adds' stars' heads'
      → One r (Ok (pos 5)) adds' (0 ∷ 0 ∷ []) stars' (1 ∷ 2 ∷ []) heads' (pos 5 ∷ pos 0 ∷ [])
  at_fives p =
      let c = cases_right.1.1.0 in
      determined (buffers adds stars heads) (buffers adds' stars' heads') (0 ∷ 0 ∷ []) (1 ∷ 2 ∷ []) (pos 5 ∷ pos 0 ∷ []) (pos 5)
      (record { some = c.some; few = c.few; square = c.square; entries = c.entries }) f
      c.comes.1 c.comes.2 c.comes.3 c.comes.4 p

  at_ones : Solves 2 ones adds stars heads r adds' stars' heads'
      → One r (Ok (pos 2)) adds' (0 ∷ 0 ∷ []) stars' (2 ∷ 1 ∷ []) heads' (pos 2 ∷ pos 0 ∷ [])
  at_ones p =
      let c = cases_right.1.1.1.0 in
      determined (buffers adds stars heads) (buffers adds' stars' heads') (0 ∷ 0 ∷ []) (2 ∷ 1 ∷ []) (pos 2 ∷ pos 0 ∷ []) (pos 2)
      (record { some = c.some; few = c.few; square = c.square; entries = c.entries }) f
      c.comes.1 c.comes.2 c.comes.3 c.comes.4 p

  -- "refusing every table is shut out by 3"
  pub refusing_is_shut_out : (e : Refusal) → r ≡ Err e → Solves 2 fives adds stars heads r adds' stars' heads' → ⊥
  refusing_is_shut_out e is p = let o = (at_fives p).answer in let z : ◌≡◌ {A = ℕ} 0 1 = cc in omega arith

  -- "one fixed answer by 2": two tables of one size want two answers
  pub one_answer_is_shut_out : Solves 2 fives adds stars heads r adds' stars' heads' → Solves 2 ones adds stars heads r adds' stars' heads' → ⊥
  one_answer_is_shut_out p q =
      let e : ◌≡◌ {A = ℕ} 1 2 = ap (λ (s : List ℕ). nums s 0) (sym (at_fives p).same_stars ∙ (at_ones q).same_stars) in
      omega arith

  -- "writing nothing by 2"
  pub writing_nothing_is_shut_out : stars ≡ 0 ∷ 0 ∷ [] → stars' ≡ stars → Solves 2 fives adds stars heads r adds' stars' heads' → ⊥
  writing_nothing_is_shut_out zeros kept p =
      let e : ◌≡◌ {A = ℕ} 1 0 = ap (λ (s : List ℕ). nums s 0) (sym (at_fives p).same_stars ∙ kept ∙ zeros) in
      omega arith

  -- "a made-up sum by 3"
  pub a_made_up_sum_is_shut_out : (s : ℤ) → r ≡ Ok s → Solves 2 fives adds stars heads r adds' stars' heads' → s ≡ pos 5
  a_made_up_sum_is_shut_out s is p = let o = (at_fives p).answer in cc

-- ---- the pendulum from the canon 4 4 6, and the yes-or-no on `-3`
-- "agreeing routes that all return their input by 2, since each answer is measured against the least canon itself"
pub returning_the_input_is_shut_out : {adds stars : List ℕ} {heads : List ℤ} {r : Answer} {adds' stars' : List ℕ} {heads' : List ℤ} {s : ℤ}
    → says r ≡ gives s → adds' ≡ 4 ∷ 4 ∷ 6 ∷ [] → FromCanon 3 pendulum (4 ∷ 4 ∷ 6 ∷ []) adds stars heads r adds' stars' heads' → ⊥
returning_the_input_is_shut_out {s = s} e same (refused k l says x y z) = not_both s k [] (sym e ∙ says)
returning_the_input_is_shut_out {adds' = adds'} e same (answered z clear says la ls lh sol) =
    let c = cases_right.1.1.1.1.1.1.1.1.1.1.0 in
    let low = sol.additions.least (nums (0 ∷ 0 ∷ 2 ∷ [])) c.comes.4.additions.canon (λ i hi. omega arith) 0 (omega arith) in
    let first : ◌≡◌ {A = ℕ} (nums adds' 0) 4 = ap (λ (l : List ℕ). nums l 0) same in
    omega (arith, low, first)

abbrev three : List ℤ
three = neg_ℤ (pos 3) ∷ []

-- "a yes-or-no that always says one thing by 2": 0 is the simplest canon of `-3`, so no is wrong there
pub always_no_is_shut_out : Judges 1 three (0 ∷ []) (Ok false) → ⊥
always_no_is_shut_out (declines k l says) = not_both false k [] says
always_no_is_shut_out (says_yes clear says s) = absurd (let z : ◌≡◌ {A = ℕ} 0 1 = cc in omega arith)
always_no_is_shut_out (says_no clear says f) = f cases_right.0.comes.4.additions

-- and 1 is not, so yes is wrong
pub always_yes_is_shut_out : Judges 1 three (1 ∷ []) (Ok true) → ⊥
always_yes_is_shut_out (declines k l says) = not_both true k [] says
always_yes_is_shut_out (says_yes clear says s) =
    let low = s.least (nums (0 ∷ [])) cases_right.0.comes.4.additions.canon (λ i hi. omega arith) 0 (omega arith) in
    omega (arith, low)
always_yes_is_shut_out (says_no clear says f) = absurd (let z : ◌≡◌ {A = ℕ} 0 1 = cc in omega arith)
