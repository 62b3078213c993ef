-- The P tables: one test of a case that the checker computes, one theorem that turns the test into the definitions, and the list.
-- The simplest canon is told by 001's proposition VII (the levels exhaust the rows: each has a path to a row at 0), the first stars, "no canon" and "no
-- transversal" by a search through the rows, the sum and the heads by working them out. Assumes nothing.
use mathlib.Core.Path.{◌≡◌, refl, ◌∙◌}
use mathlib.Core.Logic.{◌⊎◌, inl, inr}
use mathlib.Core.Bool.{Bool, true, false, not, ◌&&◌, ◌||◌}
use mathlib.Core.List.{List, [], ◌∷◌}
use Prim.Native.Nat.{ℕ, zero, suc, ◌*◌, ◌<◌}
use native.Mathlib.Omega.{arith}
use lib.Dec.{T, eqb, leb, ltb, eqb→eq, eqb_refl, leb→le, ltb→lt, lt→ltb, T_not, not_T}
use lib.IntN.{ℤ, pos, neg_ℤ}
use lib.ListN.{length, get_or}
use lib.Signed.{◌≤ℤ◌, le_z, lt_z, le_z_yes, lt_z_yes, ≤ℤ_refl}
use Rattle.theory.specs.Totals.{total, Count, none, one_more, passed_over}
use Rattle.theory.specs.Limits.{row_limit, order_limit, addition_limit}
use Rattle.theory.specs.Lists.{nums, ints, flags, columns, StarList}
use Rattle.theory.specs.Table.{absent, Present, Negative, Order, entry}
use Rattle.theory.specs.Canon.{Transversal, SomeTransversal, NoTransversal, raised, Maximum, OfMaxima, Canon, Heads, ColumnHead, held, empty, Before, sum}
use Rattle.theory.specs.Canon.{Misplaced, exceeded, Solution, LargestAddition, SomeHeadZero, SomeNegative, plus_one, alone, Index, follows, keeps}
use Rattle.theory.specs.Cases.{Handed, nothing, additions, stars, Outcome, answer, refusal6, refusal7, refusal8}
use Rattle.theory.specs.Cases.{Case, Answerable, RefusedBy7, RefusedBy8, Comes, Right, Every, cases, ColumnCase, EveryColumns, column_cases}
use Rattle.theory.specs.Cases.{IndexCase, EveryIndex, index_cases}
use Rattle.theory.specs.Paths.{itself}
use Rattle.theory.proofs.Pigeonhole.{onto}
use Rattle.theory.proofs.Signed.{signed}
use Rattle.theory.proofs.Unique.{sum_same}
use Rattle.theory.proofs.Paths.{Depends, path_by, paths_least}
use Rattle.theory.proofs.Search.{guard, both, and_both, either, every, every_told, all, all_told, all_tells, some, some_told, some_tells}
use Rattle.theory.proofs.Search.{fresh, search, listed, listed_at, found, found_told, found_tells, Chosen}

-- ---- tests of numbers
same : ℤ → ℤ → Bool
same a b = le_z a b && le_z b a

same_told : (a b : ℤ) → T (same a b) → a ≡ b
unfolding same
same_told a b t =
    let (p, q) = both (le_z a b) (le_z b a) t in
    let le : a ≤ℤ b = le_z_yes p in
    let ge : b ≤ℤ a = le_z_yes q in
    omega (arith, signed)

same_tells : (a b : ℤ) → a ≡ b → T (same a b)
unfolding same
same_tells a b e = rw e (and_both (le_z b b) (le_z b b) (≤ℤ_refl b).le (≤ℤ_refl b).le)

present : ℤ → Bool
present v = not (same v absent)

present_told : (v : ℤ) → T (present v) → Present v
unfolding present
present_told v t e = T_not (same v absent) t (same_tells v absent e)

present_tells : (v : ℤ) → Present v → T (present v)
unfolding present
present_tells v p = not_T (same v absent) (λ t. p (same_told v absent t))

-- either a fails or b passes
implies : Bool → Bool → Bool
implies a b = not a || b

implies_told : (a b : Bool) → T (implies a b) → T a → T b
unfolding implies
implies_told false b t p = elim p [ ]
implies_told true b t p = t

implies_tells : (a b : Bool) → (T a → T b) → T (implies a b)
unfolding implies
implies_tells true b f = f tt
implies_tells false b f = tt

module _ (n : ℕ) (a : ℕ → ℕ → ℤ) where
  -- ---- a column maximum
  maximum : (ℕ → ℕ) → ℕ → ℕ → Bool
  maximum l i j = present (a i j) && all n (λ k. implies (present (a k j)) (le_z (raised n a l k j) (raised n a l i j)))

  maximum_told : (l : ℕ → ℕ) (i j : ℕ) → T (maximum l i j) → Maximum n a l i j
  unfolding maximum
  maximum_told l i j t =
      let (p, q) = both (present (a i j)) (all n (λ k. implies (present (a k j)) (le_z (raised n a l k j) (raised n a l i j)))) t in
      record {
        present = present_told (a i j) p;
        unexceeded = λ k hk r.
            le_z_yes (implies_told (present (a k j)) (le_z (raised n a l k j) (raised n a l i j))
            (all_told n (λ k. implies (present (a k j)) (le_z (raised n a l k j) (raised n a l i j))) q k hk) (present_tells (a k j) r));
      }

  maximum_tells : (l : ℕ → ℕ) (i j : ℕ) → Maximum n a l i j → T (maximum l i j)
  unfolding maximum
  maximum_tells l i j m =
      and_both (present (a i j)) (all n (λ k. implies (present (a k j)) (le_z (raised n a l k j) (raised n a l i j)))) (present_tells (a i j) m.present)
      (all_tells n (λ k. implies (present (a k j)) (le_z (raised n a l k j) (raised n a l i j)))
      (λ k hk. implies_tells (present (a k j)) (le_z (raised n a l k j) (raised n a l i j)) (λ p. (m.unexceeded k hk (present_told (a k j) p)).le)))

  -- ---- transversals of present orders, and of column maxima
  any : List ℕ → Bool
  any q = true

  transversal : Bool
  transversal = found n (λ i j. present (a i j)) any

  transversal_told : T transversal → SomeTransversal n a
  unfolding transversal
  transversal_told t = let (q, e, c, u) = found_told n (λ i j. present (a i j)) any t in (nums q, of q e c)
    where
      of : (q : List ℕ) → length q ≡ n → Chosen n (λ i j. present (a i j)) any q → Transversal n a (nums q)
      of q e c =
          record {
            inside = λ i hi. c.inside i (omega arith);
            present = λ i hi. present_told (a i (nums q i)) (c.places i (omega arith));
            apart = λ i k hi hk. c.apart i k (omega arith) (omega arith);
          }

  none_told : T (not transversal) → NoTransversal n a
  unfolding transversal any
  none_told t σ r =
      T_not transversal t
      (found_tells n (λ i j. present (a i j)) any σ r.inside (λ i hi. present_tells (a i (σ i)) (r.present i hi)) r.apart (λ q e s. tt))

  canon : (ℕ → ℕ) → Bool
  canon l = found n (maximum l) any

  canon_told : (l : ℕ → ℕ) → T (canon l) → Canon n a l
  unfolding canon
  canon_told l t = let (q, e, c, u) = found_told n (maximum l) any t in record { columns = nums q; of_maxima = of q e c }
    where
      of : (q : List ℕ) → length q ≡ n → Chosen n (maximum l) any q → OfMaxima n a l (nums q)
      of q e c =
          record {
            transversal = record {
              inside = λ i hi. c.inside i (omega arith);
              present = λ i hi. (maximum_told l i (nums q i) (c.places i (omega arith))).present;
              apart = λ i k hi hk. c.apart i k (omega arith) (omega arith);
            };
            maximum = λ i hi. maximum_told l i (nums q i) (c.places i (omega arith));
          }

  no_canon_told : (l : ℕ → ℕ) → T (not (canon l)) → Canon n a l → ⊥
  unfolding canon any
  no_canon_told l t c =
      let m = c.of_maxima in
      T_not (canon l) t
      (found_tells n (maximum l) any c.columns m.transversal.inside (λ i hi. maximum_tells l i (c.columns i) (m.maximum i hi))
      m.transversal.apart (λ q e s. tt))

  -- ---- transversals of a greater sum
  more : (ℕ → ℕ) → List ℕ → Bool
  more σ q = lt_z (sum n a σ) (sum n a (nums q))

  surpassed : (ℕ → ℕ) → Bool
  surpassed σ = found n (λ i j. present (a i j)) (more σ)

  surpassed_told : (σ : ℕ → ℕ) → T (surpassed σ) → Misplaced n a σ
  unfolding surpassed more
  surpassed_told σ t =
      let (q, e, c, u) = found_told n (λ i j. present (a i j)) (more σ) t in
      exceeded (nums q)
      (record {
        inside = λ i hi. c.inside i (omega arith);
        present = λ i hi. present_told (a i (nums q i)) (c.places i (omega arith));
        apart = λ i k hi hk. c.apart i k (omega arith) (omega arith);
      })
      (lt_z_yes u)

  unsurpassed_told : (σ : ℕ → ℕ) → T (not (surpassed σ)) → (τ : ℕ → ℕ) → Transversal n a τ → sum n a τ ≤ℤ sum n a σ
  unfolding surpassed more
  unsurpassed_told σ t τ r = go (lt_z (sum n a σ) (sum n a τ)) refl
    where
      go : (b : Bool) → lt_z (sum n a σ) (sum n a τ) ≡ b → sum n a τ ≤ℤ sum n a σ
      go true e =
          absurd (T_not (surpassed σ) t
          (found_tells n (λ i j. present (a i j)) (more σ) τ r.inside (λ i hi. present_tells (a i (τ i)) (r.present i hi)) r.apart
          (λ q len s. rw (sum_same n a {σ = nums q} {τ = τ} s, e) tt)))
      go false e = omega (arith, signed)

  -- ---- a transversal that comes before
  before : (ℕ → ℕ) → List ℕ → Bool
  before σ q = some n (λ i. ltb (nums q i) (σ i) && all i (λ k. eqb (nums q k) (σ k)))

  preceded : (l σ : ℕ → ℕ) → Bool
  preceded l σ = found n (maximum l) (before σ)

  first_told : (l σ : ℕ → ℕ) → T (not (preceded l σ)) → (τ : ℕ → ℕ) → OfMaxima n a l τ → Before n a τ σ → ⊥
  unfolding preceded before
  first_told l σ t τ m b =
      T_not (preceded l σ) t
      (found_tells n (maximum l) (before σ) τ m.transversal.inside (λ i hi. maximum_tells l i (τ i) (m.maximum i hi)) m.transversal.apart
      (λ q len s.
      some_tells n (λ i. ltb (nums q i) (σ i) && all i (λ k. eqb (nums q k) (σ k))) b.row b.inside
      (and_both (ltb (nums q b.row) (σ b.row)) (all b.row (λ k. eqb (nums q k) (σ k)))
      (lt→ltb (nums q b.row) (σ b.row) (omega (arith, s b.row b.inside, b.smaller)))
      (all_tells b.row (λ k. eqb (nums q k) (σ k)) (λ k hk. rw (s k (omega (arith, b.inside)) ∙ b.same k hk) (eqb_refl (σ k)))))))

  -- ---- levels
  next : (l σ : ℕ → ℕ) → List Bool → List Bool
  next l σ old = listed n (λ i. flags old i || some n (λ k. flags old k && maximum l k (σ i)))

  levels : (l σ : ℕ → ℕ) → ℕ → List Bool
  levels l σ zero = listed n (λ i. eqb (l i) 0)
  levels l σ (suc t) = next l σ (levels l σ t)

  level_told : (l σ : ℕ → ℕ) → ((i : ℕ) → i < n → σ i < n) → (t i : ℕ) → i < n → T (flags (levels l σ t) i) → Depends n a (λ i. 0) l σ i
  unfolding levels next
  level_told l σ inside zero i hi u = (i, eqb→eq (l i) 0 (listed_at n (λ i. eqb (l i) 0) i u), itself i)
  level_told l σ inside (suc t) i hi u =
      go (either (flags (levels l σ t) i) (some n (λ k. flags (levels l σ t) k && maximum l k (σ i)))
      (listed_at n (λ i. flags (levels l σ t) i || some n (λ k. flags (levels l σ t) k && maximum l k (σ i))) i u)) (level_told l σ inside t)
    where
      go : T (flags (levels l σ t) i) ⊎ T (some n (λ k. flags (levels l σ t) k && maximum l k (σ i)))
          → ((i : ℕ) → i < n → T (flags (levels l σ t) i) → Depends n a (λ i. 0) l σ i) → Depends n a (λ i. 0) l σ i
      go (inl v) rec = rec i hi v
      go (inr v) rec =
          let (k, hk, w) = some_told n (λ k. flags (levels l σ t) k && maximum l k (σ i)) v in
          let (f, m) = both (flags (levels l σ t) k) (maximum l k (σ i)) w in
          let (x, e, p) = rec k hk f in
          (x, e, path_by n a hi (inside i hi) hk (maximum_told l k (σ i) m) p)

-- ---- a list of stars
module _ (n : ℕ) (s : List ℕ) where
  star_tests : List Bool
  star_tests =
      eqb (length s) n ∷
      all n (λ i. leb 1 (nums s i)) ∷
      all n (λ i. leb (nums s i) n) ∷
      all n (λ i. all n (λ k. implies (eqb (nums s i) (nums s k)) (eqb i k))) ∷ []

  star_list_told : T (every star_tests) → StarList n s
  unfolding star_tests
  star_list_told t =
      record {
        long = eqb→eq (length s) n (every_told star_tests t 0);
        from_one = λ i hi. leb→le 1 (nums s i) (all_told n (λ i. leb 1 (nums s i)) (every_told star_tests t 1) i hi);
        to_size = λ i hi. leb→le (nums s i) n (all_told n (λ i. leb (nums s i) n) (every_told star_tests t 2) i hi);
        none_twice = λ i k hi hk e.
            eqb→eq i k (implies_told (eqb (nums s i) (nums s k)) (eqb i k)
            (all_told n (λ k. implies (eqb (nums s i) (nums s k)) (eqb i k))
            (all_told n (λ i. all n (λ k. implies (eqb (nums s i) (nums s k)) (eqb i k))) (every_told star_tests t 3) i hi) k hk)
            (rw e (eqb_refl (nums s k))));
      }

-- stars that are listed and stand on present orders are a transversal
stars_transversal : {n : ℕ} {a : ℕ → ℕ → ℤ} {s : List ℕ} → StarList n s → ((i : ℕ) → i < n → Present (a i (columns s i))) → Transversal n a (columns s)
stars_transversal o p =
    record {
      inside = λ i hi. omega (arith, o.from_one i hi, o.to_size i hi);
      present = p;
      apart = λ i k hi hk e. o.none_twice i k hi hk (omega (arith, o.from_one i hi, o.from_one k hk));
    }

-- ---- a whole answer
module _ (n : ℕ) (a : ℕ → ℕ → ℤ) (l s : List ℕ) (h : List ℤ) (z : ℤ) where
  answer_tests : List Bool
  answer_tests =
      every (star_tests n s) ∷
      eqb (length l) n ∷
      eqb (length h) n ∷
      all n (λ i. maximum n a (nums l) i (columns s i)) ∷
      all n (λ i. flags (levels n a (nums l) (columns s) n) i) ∷
      not (preceded n a (nums l) (columns s)) ∷
      all n (λ i. same (ints h (columns s i)) (raised n a (nums l) i (columns s i))) ∷
      same z (sum n a (columns s)) ∷ []

  module _ (t : T (every answer_tests)) where
    listing : StarList n s
    unfolding answer_tests
    listing = star_list_told n s (every_told answer_tests t 0)

    at_maximum : (i : ℕ) → i < n → Maximum n a (nums l) i (columns s i)
    unfolding answer_tests
    at_maximum i hi = maximum_told n a (nums l) i (columns s i) (all_told n (λ i. maximum n a (nums l) i (columns s i)) (every_told answer_tests t 3) i hi)

    of_maxima : OfMaxima n a (nums l) (columns s)
    of_maxima = record { transversal = stars_transversal listing (λ i hi. (at_maximum i hi).present); maximum = at_maximum }

    -- each column is that of some row, by the pigeonhole, and its head is that row's raised order
    heads : Heads n a (nums l) (ints h)
    unfolding answer_tests
    heads j hj = go (onto n (columns s) of_maxima.transversal.apart of_maxima.transversal.inside j hj)
      where
        go : (i : ℕ) × (i < n) × (columns s i ≡ j) → Rattle.theory.specs.Canon.Head n a (nums l) j (ints h j)
        go (i, hi, e) =
            rw (← e)
            record {
              row = i;
              inside = hi;
              maximum = at_maximum i hi;
              is = same_told (ints h (columns s i)) (raised n a (nums l) i (columns s i))
                  (all_told n (λ i. same (ints h (columns s i)) (raised n a (nums l) i (columns s i))) (every_told answer_tests t 6) i hi);
            }

    solution : Solution n a (λ i. 0) (nums l) (columns s) (ints h) z
    unfolding answer_tests
    solution =
        record {
          additions = paths_least n a of_maxima (λ i hi. omega arith)
              (λ i hi.
              level_told n a (nums l) (columns s) of_maxima.transversal.inside n i hi
              (all_told n (λ i. flags (levels n a (nums l) (columns s) n) i) (every_told answer_tests t 4) i hi));
          stars = record { of_maxima = of_maxima; first = first_told n a (nums l) (columns s) (every_told answer_tests t 5) };
          heads = heads;
          is_sum = same_told z (sum n a (columns s)) (every_told answer_tests t 7);
        }

    lengths : (length l ≡ n) × (length h ≡ n)
    unfolding answer_tests
    lengths = (eqb→eq (length l) n (every_told answer_tests t 1), eqb→eq (length h) n (every_told answer_tests t 2))

-- ---- what is handed in, and what comes of it
module _ (n : ℕ) (a : ℕ → ℕ → ℤ) where
  answerable : Handed → Bool
  answerable nothing = true
  answerable (additions m) = eqb (length m) n && (all n (λ i. leb (nums m i) addition_limit) && canon n a (nums m))
  answerable (stars s) = every (star_tests n s) && (all n (λ i. present (a i (columns s i))) && not (surpassed n a (columns s)))

  answerable_told : (given : Handed) → T (answerable given) → Answerable n a given
  unfolding answerable
  answerable_told nothing t = tt
  answerable_told (additions m) t =
      let (e, r) = both (eqb (length m) n) (all n (λ i. leb (nums m i) addition_limit) && canon n a (nums m)) t in
      let (f, c) = both (all n (λ i. leb (nums m i) addition_limit)) (canon n a (nums m)) r in
      (eqb→eq (length m) n e, λ i hi. leb→le (nums m i) addition_limit (all_told n (λ i. leb (nums m i) addition_limit) f i hi), canon_told n a (nums m) c)
  answerable_told (stars s) t =
      let (o, r) = both (every (star_tests n s)) (all n (λ i. present (a i (columns s i))) && not (surpassed n a (columns s))) t in
      let (p, q) = both (all n (λ i. present (a i (columns s i)))) (not (surpassed n a (columns s))) r in (
        star_list_told n s o,
        record {
          transversal = stars_transversal (star_list_told n s o)
              (λ i hi. present_told (a i (columns s i)) (all_told n (λ i. present (a i (columns s i))) p i hi));
          greatest = unsurpassed_told n a (columns s) q;
        },
      )

  refused_canon : Handed → Bool
  refused_canon nothing = false
  refused_canon (additions m) = eqb (length m) n && not (canon n a (nums m))
  refused_canon (stars s) = false

  refused_canon_told : (given : Handed) → T (refused_canon given) → RefusedBy7 n a given
  unfolding refused_canon
  refused_canon_told nothing t = t
  refused_canon_told (additions m) t =
      let (e, c) = both (eqb (length m) n) (not (canon n a (nums m))) t in
      (eqb→eq (length m) n e, no_canon_told n a (nums m) c)
  refused_canon_told (stars s) t = t

  refused_stars : Handed → Bool
  refused_stars nothing = false
  refused_stars (additions m) = false
  refused_stars (stars s) = every (star_tests n s) && surpassed n a (columns s)

  refused_stars_told : (given : Handed) → T (refused_stars given) → RefusedBy8 n a given
  unfolding refused_stars
  refused_stars_told nothing t = t
  refused_stars_told (additions m) t = t
  refused_stars_told (stars s) t =
      let (o, r) = both (every (star_tests n s)) (surpassed n a (columns s)) t in
      (star_list_told n s o, surpassed_told n a (columns s) r)

  comes : Handed → Outcome → Bool
  comes given (answer l s h z) = answerable given && every (answer_tests n a l s h z)
  comes given refusal6 = not (transversal n a)
  comes given refusal7 = transversal n a && refused_canon given
  comes given refusal8 = transversal n a && refused_stars given

  comes_told : (given : Handed) (o : Outcome) → T (comes given o) → Comes n a given o
  unfolding comes
  comes_told given (answer l s h z) t =
      let (f, g) = both (answerable given) (every (answer_tests n a l s h z)) t in
      let (p, q) = lengths n a l s h z g in
      (answerable_told given f, listing n a l s h z g, p, q, solution n a l s h z g)
  comes_told given refusal6 t = none_told n a t
  comes_told given refusal7 t =
      let (f, g) = both (transversal n a) (refused_canon given) t in
      (transversal_told n a f, refused_canon_told given g)
  comes_told given refusal8 t =
      let (f, g) = both (transversal n a) (refused_stars given) t in
      (transversal_told n a f, refused_stars_told given g)

-- ---- the test of a case
order_within : ℤ → Bool
order_within v = le_z (neg_ℤ (pos order_limit)) v && le_z v (pos order_limit)

within : ℤ → Bool
within v = implies (present v) (order_within v)

case_tests : Case → List Bool
case_tests c =
    leb 1 c.size ∷
    leb c.size row_limit ∷
    eqb (length c.table) (c.size * c.size) ∷
    all (length c.table) (λ k. within (get_or c.table k (pos 0))) ∷
    comes c.size (entry c.table c.size) c.handed c.outcome ∷ []

pub test : Case → Bool
test c = every (case_tests c)

-- the one theorem: a case that passes the test is right, by the definitions
pub right : (c : Case) → T (test c) → Right c
unfolding test case_tests within order_within
right c t =
    record {
      some = leb→le 1 c.size (every_told (case_tests c) t 0);
      few = leb→le c.size row_limit (every_told (case_tests c) t 1);
      square = eqb→eq (length c.table) (c.size * c.size) (every_told (case_tests c) t 2);
      entries = λ k hk.
          orders (get_or c.table k (pos 0))
          (all_told (length c.table) (λ k. within (get_or c.table k (pos 0))) (every_told (case_tests c) t 3) k hk);
      comes = comes_told c.size (entry c.table c.size) c.handed c.outcome (every_told (case_tests c) t 4);
    }
  where
    orders : (v : ℤ) → T (within v) → Present v → Order order_limit v
    orders v u p =
        let o = implies_told (present v) (order_within v) u (present_tells v p) in
        let (lo, hi) = both (le_z (neg_ℤ (pos order_limit)) v) (le_z v (pos order_limit)) o in
        record { low = le_z_yes lo; high = le_z_yes hi }

tests : List Case → Bool
tests [] = true
tests (c ∷ cs) = test c && tests cs

all_right : (cs : List Case) → T (tests cs) → Every Right cs
unfolding tests
all_right [] t = tt
all_right (c ∷ cs) t = let (p, q) = both (test c) (tests cs) t in (right c p, all_right cs q)

-- every P table of document 01 is right: the test of the whole list is computed here
pub cases_right : Every Right cases
unfolding tests test case_tests within order_within comes answerable refused_canon refused_stars answer_tests star_tests levels next
    preceded before surpassed more canon transversal any maximum implies present same total guard every all some listed fresh search found
cases_right = all_right cases tt

-- ---- the worked columns of request 1
-- how many of the numbers below n pass a test
one_if : Bool → ℕ → ℕ
one_if true c = suc c
one_if false c = c

counted : ℕ → (ℕ → Bool) → ℕ
counted zero f = 0
counted (suc n) f = one_if (f n) (counted n f)

-- a test that tells of a property counts what has it
counted_told : {P : ℕ → Type 0} (f : ℕ → Bool) → ((i : ℕ) → T (f i) → P i) → ((i : ℕ) → P i → T (f i)) → (n : ℕ) → Count P n (counted n f)
unfolding counted one_if
counted_told f told tells zero = none
counted_told {P} f told tells (suc n) = go (counted_told f told tells n) (f n) refl
  where
    go : {c : ℕ} → Count P n c → (b : Bool) → f n ≡ b → Count P (suc n) (one_if (f n) c)
    go s true e = rw e (one_more s (told n (rw e tt)))
    go s false e = rw e (passed_over s (λ p. rw e at (tells n p)))

module _ (n : ℕ) (a : ℕ → ℕ → ℤ) (l : ℕ → ℕ) (j : ℕ) where
  -- the row is 0: no order is present, and all is 0; or it is the lowest with a maximum, with the head and the count
  column_tests : ℤ → ℕ → ℕ → List Bool
  column_tests h zero c = all n (λ i. not (present (a i j))) ∷ same h (pos 0) ∷ eqb c 0 ∷ []
  column_tests h (suc i) c =
      ltb i n
      ∷ maximum n a l i j
      ∷ all i (λ k. not (maximum n a l k j))
      ∷ same h (raised n a l i j)
      ∷ eqb c (counted n (λ k. maximum n a l k j))
      ∷ []

  column_told : (h : ℤ) (row c : ℕ) → T (every (column_tests h row c)) → ColumnHead n a l j h row c
  unfolding column_tests
  column_told h zero c t =
      let told = every_told (column_tests h zero c) t in
      empty (λ i hi p. T_not (present (a i j)) (all_told n (λ i. not (present (a i j))) (told 0) i hi) (present_tells (a i j) p))
      (same_told h (pos 0) (told 1)) refl (eqb→eq c 0 (told 2))
  column_told h (suc i) c t =
      let told = every_told (column_tests h (suc i) c) t in
      held i
      (record {
        inside = ltb→lt i n (told 0);
        maximum = maximum_told n a l i j (told 1);
        lowest = λ k hk m. T_not (maximum n a l k j) (all_told i (λ k. not (maximum n a l k j)) (told 2) k hk) (maximum_tells n a l k j m);
      })
      (same_told h (raised n a l i j) (told 3)) (omega arith)
      (rw (eqb→eq c (counted n (λ k. maximum n a l k j)) (told 4))
      (counted_told (λ k. maximum n a l k j) (λ k. maximum_told n a l k j) (λ k. maximum_tells n a l k j) n))

-- the columns of a case, and the columns of all
columns_test : ColumnCase → Bool
columns_test c =
    all c.size (λ j.
    every (column_tests c.size (entry c.table c.size) (nums c.adds) j (ints c.heads j) (nums c.rows j) (nums c.counts j)))

columns_tests : List ColumnCase → Bool
columns_tests [] = true
columns_tests (c ∷ cs) = columns_test c && columns_tests cs

columns_told : (cs : List ColumnCase) → T (columns_tests cs) → EveryColumns cs
unfolding columns_tests columns_test
columns_told [] t = tt
columns_told (c ∷ cs) t =
    let (p, q) = both (columns_test c) (columns_tests cs) t in (
      λ j hj. column_told c.size (entry c.table c.size) (nums c.adds) j (ints c.heads j) (nums c.rows j) (nums c.counts j)
          (all_told c.size _ p j hj),
      columns_told cs q,
    )

-- every worked column is right: the test of the whole list is computed here
pub columns_right : EveryColumns column_cases
unfolding columns_tests columns_test column_tests counted one_if maximum implies present same every all
columns_right = columns_told column_cases tt

-- ---- the worked figures of request 2
negative : ℤ → Bool
negative v = present v && lt_z v (pos 0)

negative_told : (v : ℤ) → T (negative v) → Negative v
unfolding negative
negative_told v t = let (p, q) = both (present v) (lt_z v (pos 0)) t in (present_told v p, lt_z_yes q)

negative_tells : (v : ℤ) → Negative v → T (negative v)
unfolding negative
negative_tells v (p, q) = and_both (present v) (lt_z v (pos 0)) (present_tells v p) q.lt

module _ (n : ℕ) (a : ℕ → ℕ → ℤ) where
  -- some order is negative
  some_negative : Bool
  some_negative = some n (λ i. some n (λ j. negative (a i j)))

  negative_order_told : T some_negative → SomeNegative n a
  unfolding some_negative
  negative_order_told t =
      let (i, hi, u) = some_told n (λ i. some n (λ j. negative (a i j))) t in
      let (j, hj, v) = some_told n (λ j. negative (a i j)) u in
      record { row = i; column = j; row_inside = hi; column_inside = hj; negative = negative_told (a i j) v }

  negative_order_tells : SomeNegative n a → T some_negative
  unfolding some_negative
  negative_order_tells s =
      some_tells n (λ i. some n (λ j. negative (a i j))) s.row s.row_inside
      (some_tells n (λ j. negative (a s.row j)) s.column s.column_inside (negative_tells _ s.negative))

  module _ (l : ℕ → ℕ) where
    -- some head is 0
    zero_at : ℕ → ℕ → Bool
    zero_at j i = maximum n a l i j && same (pos 0) (raised n a l i j)

    some_head_zero : Bool
    some_head_zero = some n (λ j. some n (zero_at j))

    head_zero_told : T some_head_zero → SomeHeadZero n a l
    unfolding some_head_zero zero_at
    head_zero_told t =
        let (j, hj, u) = some_told n (λ j. some n (zero_at j)) t in
        let (i, hi, v) = some_told n (zero_at j) u in
        let (m, e) = both (maximum n a l i j) (same (pos 0) (raised n a l i j)) v in
        record {
          column = j;
          inside = hj;
          head = record { row = i; inside = hi; maximum = maximum_told n a l i j m; is = same_told (pos 0) (raised n a l i j) e };
        }

    head_zero_tells : SomeHeadZero n a l → T some_head_zero
    unfolding some_head_zero zero_at
    head_zero_tells z =
        let j = z.column in
        let i = z.head.row in
        some_tells n (λ j. some n (zero_at j)) j z.inside
        (some_tells n (zero_at j) i z.head.inside
        (and_both (maximum n a l i j) (same (pos 0) (raised n a l i j)) (maximum_tells n a l i j z.head.maximum)
        (same_tells (pos 0) (raised n a l i j) z.head.is)))

    -- the largest addition
    largest : ℕ → Bool
    largest x = some n (λ i. eqb x (l i)) && all n (λ i. leb (l i) x)

    largest_told : (x : ℕ) → T (largest x) → LargestAddition n l x
    unfolding largest
    largest_told x t =
        let (p, q) = both (some n (λ i. eqb x (l i))) (all n (λ i. leb (l i) x)) t in
        let (i, hi, e) = some_told n (λ i. eqb x (l i)) p in
        record { row = i; inside = hi; is = eqb→eq x (l i) e; largest = λ k hk. leb→le (l k) x (all_told n (λ i. leb (l i) x) q k hk) }

    -- whether some order is negative, whether some head is 0, and the figure
    figure : Bool → Bool → ℕ → Bool
    figure true z x = largest x
    figure false false x = largest x
    figure false true zero = false
    figure false true (suc most) = largest most

    figure_told : (b z : Bool) (x : ℕ) → some_negative ≡ b → some_head_zero ≡ z → T (figure b z x) → Index n a l x
    unfolding figure
    figure_told true z x p q t = keeps (negative_order_told (rw p tt)) (largest_told x t)
    figure_told false false x p q t =
        follows (λ s. rw p at (negative_order_tells s)) (alone (λ s. rw q at (head_zero_tells s)) (largest_told x t))
    figure_told false true zero p q t = elim t [ ]
    figure_told false true (suc most) p q t =
        follows (λ s. rw p at (negative_order_tells s)) (plus_one most (head_zero_told (rw q tt)) (largest_told most t) (omega arith))

-- the figure of a case, and the figures of all
index_test : IndexCase → Bool
index_test c =
    let a = entry c.table c.size in
    figure c.size a (nums c.adds) (some_negative c.size a) (some_head_zero c.size a (nums c.adds)) c.figure

index_tests : List IndexCase → Bool
index_tests [] = true
index_tests (c ∷ cs) = index_test c && index_tests cs

index_told : (cs : List IndexCase) → T (index_tests cs) → EveryIndex cs
unfolding index_tests index_test
index_told [] t = tt
index_told (c ∷ cs) t =
    let (p, q) = both (index_test c) (index_tests cs) t in
    (figure_told c.size (entry c.table c.size) (nums c.adds) _ _ c.figure refl refl p, index_told cs q)

-- every worked figure is right: the test of the whole list is computed here
pub index_right : EveryIndex index_cases
unfolding index_tests index_test figure largest some_head_zero zero_at some_negative negative maximum implies present same every all some
index_right = index_told index_cases tt
