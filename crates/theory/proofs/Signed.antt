-- Signed arithmetic for proofs. `omega` reads natural numbers alone, so a signed number z is written as the difference
-- `up z − dn z` of two natural numbers, one of which is 0, and each law below turns one kind of statement about signed numbers
-- into one linear statement about these, with no side condition. `omega (arith, signed)` then uses the comparisons, equations,
-- tests and ranges of signed numbers in reach, and proves such a goal. A sum is named in the list: `plus a b`, `minus a b`.
-- Assumes nothing.
use mathlib.Core.Path.{◌≡◌, refl}
use mathlib.Core.Bool.{Bool, true, false, not, cond}
use Prim.Native.Nat.{ℕ, zero, suc, ◌+◌, ◌-◌, ◌*◌, ◌^◌, ◌≤◌, ◌<◌}
use native.Mathlib.Nat.{mul-le-mul_left}
use native.Mathlib.Decide.{ℕ_discrete}
use native.Mathlib.Omega.{arith}
use lib.Dec.{T, ltb, leb, nleb→lt, ltb→lt, nltb→le, leb→le, le→leb, lt→ltb}
use lib.IntN.{ℤ, pos, negsuc, neg_ℤ, sub_ℕ, ◌+ℤ◌, ◌-ℤ◌, nat_abs}
use lib.Signed.{mag, ◌≤ℤ◌, ◌<ℤ◌, le_z, lt_z, non_neg, le_z_yes, lt_z_yes, lt_z_no}
use mir.Syntax.{Width}
use mir.Val.{SFits, hbits}
use Rattle.theory.specs.Totals.{total, totalℕ}

-- how far z is above 0, and how far below
abbrev pub up : ℤ → ℕ
up (pos n) = n
up (negsuc n) = 0

abbrev pub dn : ℤ → ℕ
dn (pos n) = 0
dn (negsuc n) = suc n

-- ---- comparisons, both ways
pub le_ud : (a b : ℤ) → a ≤ℤ b → up a + dn b ≤ up b + dn a
le_ud (pos a) (pos b) h = omega (arith, leb→le a b h.le)
le_ud (pos a) (negsuc b) h = absurd h.le
le_ud (negsuc a) (pos b) h = omega arith
le_ud (negsuc a) (negsuc b) h = omega (arith, leb→le b a h.le)

pub ud_le : (a b : ℤ) → up a + dn b ≤ up b + dn a → a ≤ℤ b
ud_le (pos a) (pos b) h = record { le = le→leb a b (omega arith) }
ud_le (pos a) (negsuc b) h = absurd (omega arith)
ud_le (negsuc a) (pos b) h = record { le = tt }
ud_le (negsuc a) (negsuc b) h = record { le = le→leb b a (omega arith) }

pub lt_ud : (a b : ℤ) → a <ℤ b → up a + dn b < up b + dn a
lt_ud (pos a) (pos b) h = omega (arith, ltb→lt a b h.lt)
lt_ud (pos a) (negsuc b) h = absurd h.lt
lt_ud (negsuc a) (pos b) h = omega arith
lt_ud (negsuc a) (negsuc b) h = omega (arith, ltb→lt b a h.lt)

pub ud_lt : (a b : ℤ) → up a + dn b < up b + dn a → a <ℤ b
ud_lt (pos a) (pos b) h = record { lt = lt→ltb a b (omega arith) }
ud_lt (pos a) (negsuc b) h = absurd (omega arith)
ud_lt (negsuc a) (pos b) h = record { lt = tt }
ud_lt (negsuc a) (negsuc b) h = record { lt = lt→ltb b a (omega arith) }

-- ---- equations, both ways
pub eq_ud : (a b : ℤ) → a ≡ b → up a + dn b ≡ up b + dn a
eq_ud a b e = rw e refl

pub ud_eq : (a b : ℤ) → up a + dn b ≡ up b + dn a → a ≡ b
ud_eq (pos a) (pos b) h = rw (same h)
  where
    same : a + 0 ≡ b + 0 → a ≡ b
    same e = omega arith
ud_eq (pos a) (negsuc b) h = absurd (omega arith)
ud_eq (negsuc a) (pos b) h = absurd (omega arith)
ud_eq (negsuc a) (negsuc b) h = rw (same h)
  where
    same : 0 + suc b ≡ 0 + suc a → a ≡ b
    same e = omega arith

-- ---- tests, as a branch of code leaves them
is_yes : (b : Bool) → b ≡ true → T b
is_yes b e = rw e tt

is_no : (b : Bool) → b ≡ false → T (not b)
is_no b e = rw e tt

pub lt_z_true_ud : (a b : ℤ) → lt_z a b ≡ true → up a + dn b < up b + dn a
lt_z_true_ud a b e = lt_ud a b (lt_z_yes (is_yes (lt_z a b) e))

pub lt_z_false_ud : (a b : ℤ) → lt_z a b ≡ false → up b + dn a ≤ up a + dn b
lt_z_false_ud a b e = le_ud b a (lt_z_no (is_no (lt_z a b) e))

pub le_z_true_ud : (a b : ℤ) → le_z a b ≡ true → up a + dn b ≤ up b + dn a
le_z_true_ud a b e = le_ud a b (le_z_yes (is_yes (le_z a b) e))

pub le_z_false_ud : (a b : ℤ) → le_z a b ≡ false → up b + dn a < up a + dn b
le_z_false_ud (pos a) (pos b) e = omega (arith, nleb→lt a b (is_no (leb a b) e))
le_z_false_ud (pos a) (negsuc b) e = omega arith
le_z_false_ud (negsuc a) (pos b) e = absurd (is_no true e)
le_z_false_ud (negsuc a) (negsuc b) e = omega (arith, nleb→lt b a (is_no (leb b a) e))

-- ---- sums and differences
sub_ud : (a b : ℕ) → up (sub_ℕ a b) + b ≡ dn (sub_ℕ a b) + a
sub_ud a b = go (ltb a b) (λ t. ltb→lt a b t) (λ t. nltb→le a b t)
  where
    go : (c : Bool) → (T c → a < b) → (T (not c) → b ≤ a)
        → up (cond c (negsuc (b - suc a)) (pos (a - b))) + b ≡ dn (cond c (negsuc (b - suc a)) (pos (a - b))) + a
    go true f g = omega (arith, f tt)
    go false f g = omega (arith, g tt)

pub plus : (a b : ℤ) → up (a +ℤ b) + (dn a + dn b) ≡ dn (a +ℤ b) + (up a + up b)
plus (pos a) (pos b) = omega arith
plus (pos a) (negsuc b) = omega (arith, sub_ud a (suc b))
plus (negsuc a) (pos b) = omega (arith, sub_ud b (suc a))
plus (negsuc a) (negsuc b) = omega arith

pub minus : (a b : ℤ) → up (a -ℤ b) + (dn a + up b) ≡ dn (a -ℤ b) + (up a + dn b)
minus a (pos zero) = omega (arith, plus a (pos 0))
minus a (pos (suc b)) = omega (arith, plus a (negsuc b))
minus a (negsuc b) = omega (arith, plus a (pos (suc b)))

-- −n
pub below_zero : (n : ℕ) → dn (neg_ℤ (pos n)) ≡ n + up (neg_ℤ (pos n))
below_zero zero = refl
below_zero (suc n) = omega arith

-- −n ≤ z, with no −n in the list
pub neg_le_ud : (n : ℕ) (z : ℤ) → neg_ℤ (pos n) ≤ℤ z → dn z ≤ n + up z
neg_le_ud n z h = omega (arith, le_ud (neg_ℤ (pos n)) z h, below_zero n)

-- two raised orders compared, with no sum in the list
pub raised_le_ud : (a b : ℤ) (l m : ℕ) → (a +ℤ pos l) ≤ℤ (b +ℤ pos m) → up a + l + dn b ≤ up b + m + dn a
raised_le_ud a b l m h = omega (arith, le_ud (a +ℤ pos l) (b +ℤ pos m) h, plus a (pos l), plus b (pos m))

pub ud_raised_le : (a b : ℤ) (l m : ℕ) → up a + l + dn b ≤ up b + m + dn a → (a +ℤ pos l) ≤ℤ (b +ℤ pos m)
ud_raised_le a b l m h = ud_le (a +ℤ pos l) (b +ℤ pos m) (omega (arith, plus a (pos l), plus b (pos m)))

pub raised_eq_ud : (a b : ℤ) (l m : ℕ) → a +ℤ pos l ≡ b +ℤ pos m → up a + l + dn b ≡ up b + m + dn a
raised_eq_ud a b l m h = omega (arith, eq_ud (a +ℤ pos l) (b +ℤ pos m) h, plus a (pos l), plus b (pos m))

pub ud_raised_eq : (a b : ℤ) (l m : ℕ) → up a + l + dn b ≡ up b + m + dn a → a +ℤ pos l ≡ b +ℤ pos m
ud_raised_eq a b l m h = ud_eq (a +ℤ pos l) (b +ℤ pos m) (omega (arith, plus a (pos l), plus b (pos m)))

-- two raised orders that are compared and not equal
pub raised_lt_ud : (a b : ℤ) (l m : ℕ) → (a +ℤ pos l) ≤ℤ (b +ℤ pos m) → (a +ℤ pos l ≡ b +ℤ pos m → ⊥) → up a + l + dn b < up b + m + dn a
raised_lt_ud a b l m h ne =
    elim (ℕ_discrete (up a + l + dn b) (up b + m + dn a)) [
      | yes e ↦ absurd (ne (ud_raised_eq a b l m e))
      | no d ↦ omega (arith, raised_le_ud a b l m h)
    ]

-- ---- ranges of the machine's numbers
-- Both bounds are one linear statement, since `omega` applies one rule to a hypothesis: one of `up z` and `dn z` is 0, and with
-- H for 2 ^ (w − 1) it says that `up z` is at most H − 1 and `dn z` at most H.
pub sfits_ud : (w : Width) (z : ℤ) → SFits w z → 2 ^ hbits w * up z + (2 ^ hbits w - 1) * dn z ≤ 2 ^ hbits w * (2 ^ hbits w - 1)
sfits_ud w (pos n) f = omega (arith, mul-le-mul_left (2 ^ hbits w) (le_pred f))
  where
    le_pred : SFits w (pos n) → n ≤ 2 ^ hbits w - 1
    le_pred f = omega (arith, f.sfits)
sfits_ud w (negsuc n) f = omega (arith, mul-le-mul_left (2 ^ hbits w - 1) f.sfits)

-- the same towards a goal: one of the two differences is 0
pub ud_sfits : (w : Width) (z : ℤ) → (up z - dn z) + (dn z - suc (up z)) < 2 ^ hbits w → SFits w z
ud_sfits w (pos n) h = record { sfits = omega arith }
ud_sfits w (negsuc n) h = record { sfits = omega arith }

pub ruleset signed = (neg_le_ud, le_ud, ud_le, lt_ud, ud_lt, eq_ud, ud_eq, lt_z_true_ud, lt_z_false_ud, le_z_true_ud, le_z_false_ud, sfits_ud, ud_sfits)

-- ---- totals
pub total_ud : (n : ℕ) (f : ℕ → ℤ) → up (total n f) + totalℕ n (λ i. dn (f i)) ≡ dn (total n f) + totalℕ n (λ i. up (f i))
unfolding total totalℕ
total_ud zero f = refl
total_ud (suc n) f = omega (arith, total_ud n f, plus (total n f) (f n))

-- ---- casts
-- a signed number that is not negative, cast to an unsigned type
pub ud_non_neg : (z : ℤ) → dn z ≤ up z → T (non_neg z)
ud_non_neg (pos n) h = tt
ud_non_neg (negsuc n) h = absurd (omega arith)

pub nat_abs_is : (z : ℤ) → nat_abs z ≡ up z + dn z
nat_abs_is (pos n) = omega arith
nat_abs_is (negsuc n) = omega arith

pub dn_none : (z : ℤ) → dn z ≤ up z → dn z ≡ 0
dn_none (pos n) h = refl
dn_none (negsuc n) h = absurd (omega arith)

-- a bound on `mag`, as a contract may have it
pub mag_up : (z : ℤ) → up z ≤ mag z
mag_up (pos n) = omega arith
mag_up (negsuc n) = omega arith

pub mag_dn : (z : ℤ) → dn z ≤ suc (mag z)
mag_dn (pos n) = omega arith
mag_dn (negsuc n) = omega arith
