-- What holds where a refusal does not apply, and the first three refusals, one test after the other. Assumes nothing.
use mathlib.Core.Path.{◌≡◌, refl, sym}
use mathlib.Core.Logic.{◌⊎◌, inl, inr}
use mathlib.Core.List.{List, [], ◌∷◌}
use Prim.Native.Nat.{ℕ, zero, suc, ◌+◌, ◌*◌, ◌≤◌, ◌<◌}
use native.Mathlib.Decide.{ℕ_discrete, dec_le, dec_lt}
use native.Mathlib.Omega.{arith}
use lib.IntN.{ℤ, pos, ℤ_discrete}
use lib.ListN.{length, get_or}
use Rattle.std.specs.Prelude.{Ok, Err}
use Rattle.theory.specs.Limits.{row_limit, order_limit, addition_limit}
use Rattle.theory.specs.Lists.{nums, StarList}
use Rattle.theory.specs.Table.{absent, Present, Order, Entries}
use Rattle.theory.proofs.Pigeonhole.{exists, dec_both, dec_not}
use Rattle.theory.proofs.Signed.{up, dn, signed}
use Rattle.orders.specs.Refusals.{number_of, values_of, First, numbers, Rising, WrongLength, RightLengths}
use Rattle.orders.specs.declared.Refusal.{Refusal}
use Rattle.orders.specs.declared.Refusal.TheVariants.{Length, Entry}
use Rattle.orders.proofs.Refusals.{right_not_wrong}
use Rattle.handed.specs.Conditions.{OutOfSize, each, slices, WrongEntry, TooLarge, WrongStars, under_one, over_size, twice}
use Rattle.handed.specs.Conditions.{basic, table_tests, canon_tests, heads_tests, star_tests}
use Rattle.handed.specs.Handed.{Basic}

-- a size that passed both tests
pub in_size : {n : ℕ} → (n ≡ 0 → ⊥) → n ≤ row_limit → OutOfSize n → ⊥
in_size ne le (inl e) = ne e
in_size ne le (inr gt) = omega arith

-- and the other way: a size to which refusal 1 does not apply
pub sized : {n : ℕ} → (OutOfSize n → ⊥) → (1 ≤ n) × (n ≤ row_limit)
sized {n} f = (
  elim (ℕ_discrete n 0) [ yes e ↦ absurd (f (inl e)) | no ne ↦ omega arith ],
  elim (dec_le n row_limit) [ yes h ↦ h | no g ↦ absurd (f (inr (omega arith))) ],
)

-- whether a number is an order is decided by two comparisons
order_known : (v : ℤ) → Dec (Order order_limit v)
order_known v = go (dec_le (dn v) (order_limit + up v)) (dec_le (up v) (order_limit + dn v))
  where
    go : Dec (dn v ≤ order_limit + up v) → Dec (up v ≤ order_limit + dn v) → Dec (Order order_limit v)
    go (yes l) (yes h) = yes (record { low = omega (arith, signed); high = omega (arith, signed) })
    go (no f) h = no (λ o. f (omega (arith, signed, o.low)))
    go (yes l) (no f) = no (λ o. f (omega (arith, signed, o.high)))

-- so entries to which refusal 3 does not apply are each absent or an order, and entries that are not have a wrong one among them
pub entries_known : (t : List ℤ) → (WrongEntry t → ⊥) → Entries order_limit t
entries_known t f k h p =
    elim (order_known (get_or t k (pos 0))) [
      | yes o ↦ o
      | no n ↦ absurd (f (record { place = k; inside = h; not_absent = p; no_order = n }))
    ]

pub entries_right : {t : List ℤ} → Entries order_limit t → WrongEntry t → ⊥
entries_right all w = w.no_order (all w.place w.inside w.not_absent)

abbrev WrongAt : List ℤ → ℕ → Type 0
WrongAt t k = Present (get_or t k (pos 0)) × (Order order_limit (get_or t k (pos 0)) → ⊥)

wrong_known : (t : List ℤ) (k : ℕ) → Dec (WrongAt t k)
wrong_known t k = dec_both (dec_not (ℤ_discrete (get_or t k (pos 0)) absent)) (dec_not (order_known (get_or t k (pos 0))))

pub wrong_entry : (t : List ℤ) → (Entries order_limit t → ⊥) → WrongEntry t
wrong_entry t f = go (exists (WrongAt t) (wrong_known t) (length t))
  where
    go : ((k : ℕ) × (k < length t) × WrongAt t k) ⊎ ((k : ℕ) → k < length t → WrongAt t k → ⊥) → WrongEntry t
    go (inl w) = record { place = w.0; inside = w.1; not_absent = w.2.0; no_order = w.2.1 }
    go (inr none) = absurd (f (entries_known t (λ w. none w.place w.inside (w.not_absent, w.no_order))))

-- ---- refusals 4 and 5
pub additions_known : (l : List ℕ) → (TooLarge l → ⊥) → (i : ℕ) → i < length l → nums l i ≤ addition_limit
additions_known l f i h =
    elim (dec_le (nums l i) addition_limit) [ yes p ↦ p | no q ↦ absurd (f (record { row = i; inside = h; above = omega arith })) ]

pub additions_right : {l : List ℕ} → ((i : ℕ) → i < length l → nums l i ≤ addition_limit) → TooLarge l → ⊥
additions_right all w = omega (arith, all w.row w.inside, w.above)

pub stars_known : (n : ℕ) (s : List ℕ) → length s ≡ n → (WrongStars n s → ⊥) → StarList n s
stars_known n s long f =
    record {
      long = long;
      from_one = λ i hi. elim (dec_le 1 (nums s i)) [ yes p ↦ p | no q ↦ absurd (f (under_one i (omega arith) (omega arith))) ];
      to_size = λ i hi. elim (dec_le (nums s i) n) [ yes p ↦ p | no q ↦ absurd (f (over_size i (omega arith) (omega arith))) ];
      none_twice = λ i k hi hk e. same i k hi hk e (dec_lt i k) (dec_lt k i);
    }
  where
    same : (i k : ℕ) → i < n → k < n → nums s i ≡ nums s k → Dec (i < k) → Dec (k < i) → i ≡ k
    same i k hi hk e (yes l) g = absurd (f (twice i k l (omega arith) e))
    same i k hi hk e (no l) (yes g) = absurd (f (twice k i g (omega arith) (sym e)))
    same i k hi hk e (no l) (no g) = omega arith

pub stars_right : {n : ℕ} {s : List ℕ} → StarList n s → WrongStars n s → ⊥
stars_right l (under_one i hi e) = omega (arith, l.long, l.from_one i (omega (arith, l.long)))
stars_right l (over_size i hi e) = omega (arith, l.long, l.to_size i (omega (arith, l.long)))
stars_right l (twice i k lt hk e) = omega (arith, l.long, l.none_twice i k (omega (arith, l.long)) (omega (arith, l.long)) e)

-- ---- the numbers of each list of tests rise
pub table_rises : (n : ℕ) (t : List ℤ) (ks : List ℕ) → Rising (numbers (table_tests n t ks))
table_rises n t ks = omega arith

pub canon_rises : (n : ℕ) (t : List ℤ) (given ks : List ℕ) → Rising (numbers (canon_tests n t given ks))
canon_rises n t given ks = omega arith

pub heads_rises : (n : ℕ) (t : List ℤ) (given ks : List ℕ) → Rising (numbers (heads_tests n t given ks))
heads_rises n t given ks = omega arith

pub star_rises : (n : ℕ) (t : List ℤ) (given ks : List ℕ) → Rising (numbers (star_tests n t given ks))
star_rises n t given ks = omega arith

-- ---- the first three, one test after the other
module _ {n : ℕ} {t : List ℤ} {ks : List ℕ} where
  -- a refusal that is the first that applies
  refused_by : (q : Refusal) → First (basic n t ks []) (number_of q) → values_of q ≡ [] → Basic n t ks (Err q)
  refused_by q low bare = record { passed = λ e. cc; refused = λ p e. let h : q ≡ p = cc in rw (sym h) (low, bare) }

  module _ (ne : n ≡ 0 → ⊥) (le : n ≤ row_limit) where
    pub basic_lengths : WrongLength (slices n t ks) → Basic n t ks (Err Length)
    basic_lengths w = refused_by Length (inr (in_size ne le, inl (w, refl))) refl

    module _ (sq : length t ≡ n * n) (f : RightLengths (each n ks)) where
      pub basic_entries : WrongEntry t → Basic n t ks (Err Entry)
      basic_entries w = refused_by Entry (inr (in_size ne le, inr (right_not_wrong (slices n t ks) (sq, f), inl (w, refl)))) refl

      pub basic_sound : Entries order_limit t → Basic n t ks (Ok tt)
      basic_sound all =
          record {
            passed = λ e. record { in_size = in_size ne le; square = record { small = le; square = sq }; fitting = f; entries = all };
            refused = λ q e. cc;
          }

-- ---- the lengths that are to be n: what their test tells
abbrev pub AllWanted : ℕ → List ℕ → Type 0
AllWanted n ks = (x : ℕ) → x < length ks → get_or ks x 0 ≡ n

pub each_right : (n : ℕ) (ks : List ℕ) → AllWanted n ks → RightLengths (each n ks)
each_right n [] f = tt
each_right n (k ∷ ks) f = (f 0 (omega arith), each_right n ks (λ x h. f (suc x) (omega arith)))

pub each_wrong : (n : ℕ) (ks : List ℕ) → (AllWanted n ks → ⊥) → WrongLength (each n ks)
each_wrong n [] f = absurd (f (λ x h. absurd (omega arith)))
each_wrong n (k ∷ ks) f = elim (ℕ_discrete k n) [ yes e ↦ inr (each_wrong n ks (λ all. f (also e all))) | no ne ↦ inl ne ]
  where
    also : k ≡ n → AllWanted n ks → AllWanted n (k ∷ ks)
    also e all zero h = e
    also e all (suc x) h = all x (omega arith)
