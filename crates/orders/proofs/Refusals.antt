-- At most one refusal is given, the lowest that applies, and none where no test applies; and an answer is known from what it says.
-- Assumes nothing.
use mathlib.Core.Path.{◌≡◌, refl, sym, ◌∙◌, ap, ap₂}
use mathlib.Core.Logic.{inl, inr}
use mathlib.Core.Bool.{cond}
use mathlib.Core.List.{List, [], ◌∷◌}
use Prim.Native.Nat.{ℕ, ◌≤◌}
use native.Mathlib.Decide.{ℕ_discrete}
use native.Mathlib.Omega.{arith}
use lib.Dec.{eqb}
use lib.ListN.{get_or}
use Rattle.std.specs.Prelude.{Result, Ok, Err}
use Rattle.orders.specs.Refusals.{number_of, values_of, Said, gives, refuses, refusal, says}
use Rattle.orders.specs.Refusals.{Test, First, Clear, Applies, numbers, Rising, Among, Slice, WrongLength, RightLengths}
use Rattle.orders.specs.declared.Refusal.{Refusal}
use Rattle.orders.specs.declared.Refusal.TheVariants.{Size, Length, Entry, Addition, StarList, NoTransversal, NoCanon}
use Rattle.orders.specs.declared.Refusal.TheVariants.{NotGreatest, TooLong, Line, Label, Room}

pub first_once : (ts : List Test) (j k : ℕ) → First ts j → First ts k → j ≡ k
first_once [] j k p q = absurd p
first_once (t ∷ ts) j k (inl p) (inl q) = p.1 ∙ sym q.1
first_once (t ∷ ts) j k (inl p) (inr q) = absurd (q.0 p.0)
first_once (t ∷ ts) j k (inr p) (inl q) = absurd (p.0 q.0)
first_once (t ∷ ts) j k (inr p) (inr q) = first_once ts j k p.1 q.1

pub first_clear : (ts : List Test) (k : ℕ) → First ts k → Clear ts → ⊥
first_clear [] k p q = p
first_clear (t ∷ ts) k (inl p) q = q.0 p.0
first_clear (t ∷ ts) k (inr p) q = first_clear ts k p.1 q.1

-- the first test that applies has one of the tests' numbers
pub first_among : (ts : List Test) (k : ℕ) → First ts k → Among (numbers ts) k
first_among [] k p = p
first_among (t ∷ ts) k (inl p) = inl p.1
first_among (t ∷ ts) k (inr p) = inr (first_among ts k p.1)

-- where the numbers rise, a test that applies has a number from the first of the list on
from_first : (t : Test) (ts : List Test) (k : ℕ) → Rising (numbers (t ∷ ts)) → Applies (t ∷ ts) k → t.number ≤ k
from_first t [] k rise (inl p) = omega (arith, p.1)
from_first t [] k rise (inr p) = absurd p
from_first t (u ∷ us) k rise (inl p) = omega (arith, p.1)
from_first t (u ∷ us) k rise (inr p) = omega (arith, rise.0, from_first u us k rise.1 p)

-- and the first that applies is the lowest that applies
pub first_lowest : (ts : List Test) (j k : ℕ) → Rising (numbers ts) → First ts j → Applies ts k → j ≤ k
first_lowest [] j k rise p q = absurd p
first_lowest (t ∷ ts) j k rise (inl p) q = omega (arith, p.1, from_first t ts k rise q)
first_lowest (t ∷ ts) j k rise (inr p) (inl q) = absurd (p.0 q.0)
first_lowest (t ∷ ts) j k rise (inr p) (inr q) = first_lowest ts j k (tail_rises ts rise) p.1 q
  where
    tail_rises : (us : List Test) → Rising (numbers (t ∷ us)) → Rising (numbers us)
    tail_rises [] r = tt
    tail_rises (u ∷ us) r = r.1

-- ---- refusal 2: lengths are wrong or right, and not both
pub right_not_wrong : (ss : List Slice) → RightLengths ss → WrongLength ss → ⊥
right_not_wrong [] r w = w
right_not_wrong (s ∷ ss) r (inl ne) = ne r.0
right_not_wrong (s ∷ ss) r (inr w) = right_not_wrong ss r.1 w

pub right_lengths : (ss : List Slice) → (WrongLength ss → ⊥) → RightLengths ss
right_lengths [] f = tt
right_lengths (s ∷ ss) f = (
  elim (ℕ_discrete s.lent s.wanted) [ yes e ↦ e | no ne ↦ absurd (f (inl ne)) ],
  right_lengths ss (λ w. f (inr w)),
)

-- ---- answers
-- two answers that refuse by the first of the same tests say the same
pub refused_once : {X : Type 0} (ts : List Test) {j k : ℕ} {a b : Said X} → First ts j → a ≡ refuses j [] → First ts k → b ≡ refuses k [] → a ≡ b
refused_once ts {j} {k} p e q f = e ∙ ap (λ (i : ℕ). refuses i []) (first_once ts j k p q) ∙ sym f

-- the refusals that hold no line have no value beside their number
pub values_none : (r : Refusal) → ((k : ℕ) → r ≡ Line k → ⊥) → values_of r ≡ []
values_none Size f = refl
values_none Length f = refl
values_none Entry f = refl
values_none Addition f = refl
values_none StarList f = refl
values_none NoTransversal f = refl
values_none NoCanon f = refl
values_none NotGreatest f = refl
values_none TooLong f = refl
values_none (Line k) f = absurd (f k refl)
values_none Label f = refl
values_none Room f = refl

-- the refusal with a number and values
refusal_of : ℕ → List ℕ → Refusal
refusal_of k vs =
    cond (eqb k 1) Size
    (cond (eqb k 2) Length
    (cond (eqb k 3) Entry
    (cond (eqb k 4) Addition
    (cond (eqb k 5) StarList
    (cond (eqb k 6) NoTransversal
    (cond (eqb k 7) NoCanon
    (cond (eqb k 8) NotGreatest
    (cond (eqb k 9) TooLong
    (cond (eqb k 10) (Line (get_or vs 0 0)) (cond (eqb k 11) Label Room))))))))))

refusal_of_said : (r : Refusal) → refusal_of (number_of r) (values_of r) ≡ r
unfolding refusal_of
refusal_of_said Size = refl
refusal_of_said Length = refl
refusal_of_said Entry = refl
refusal_of_said Addition = refl
refusal_of_said StarList = refl
refusal_of_said NoTransversal = refl
refusal_of_said NoCanon = refl
refusal_of_said NotGreatest = refl
refusal_of_said TooLong = refl
refusal_of_said (Line k) = refl
refusal_of_said Label = refl
refusal_of_said Room = refl

-- two refusals that say the same are one
pub refusal_once : {X : Type 0} (r s : Refusal) → ◌≡◌ {A = Said X} (refusal r) (refusal s) → r ≡ s
refusal_once r s e =
    let number : number_of r ≡ number_of s = cc in
    let values : values_of r ≡ values_of s = cc in
    sym (refusal_of_said r) ∙ ap₂ refusal_of number values ∙ refusal_of_said s

-- and so are two values that are given
pub given_once : {X : Type 0} (x y : X) → ◌≡◌ {A = Said X} (gives x) (gives y) → x ≡ y
given_once x y e = cc

-- refusals that say the same have number and values in common
pub same_number : {X : Type 0} (j k : ℕ) (vs ws : List ℕ) → ◌≡◌ {A = Said X} (refuses j vs) (refuses k ws) → (k ≡ j) × (ws ≡ vs)
same_number j k vs ws e = let a : k ≡ j = cc in let b : ws ≡ vs = cc in (a, b)

-- a value is no refusal
pub not_both {ℓ} : {A : Type ℓ} {X : Type 0} (x : X) (k : ℕ) (vs : List ℕ) → ◌≡◌ {A = Said X} (gives x) (refuses k vs) → A
not_both x k vs e = absurd (let z : ◌≡◌ {A = ℕ} 0 1 = cc in omega arith)

-- a refusal says the same, whatever kind of value would be given in its place
pub same_refusal : {X Y : Type 0} (y : Refusal) (k : ℕ) (vs : List ℕ) → ◌≡◌ {A = Said X} (refusal y) (refuses k vs) → ◌≡◌ {A = Said Y} (refusal y) (refuses k vs)
same_refusal y k vs e = let c : number_of y ≡ k = cc in let d : values_of y ≡ vs = cc in cc

-- two answers that say the same are one
pub says_once : {X : Type 0} (a b : Result X Refusal) → says a ≡ says b → a ≡ b
says_once (Ok x) (Ok y) e = ap Ok (given_once x y e)
says_once (Ok x) (Err r) e = not_both x (number_of r) (values_of r) e
says_once (Err r) (Ok y) e = not_both y (number_of r) (values_of r) (sym e)
says_once (Err r) (Err q) e = ap Err (refusal_once r q e)
