-- Tests that the checker computes: whether all, or some, of the numbers below n pass a test, and a search through the rows for a
-- complete transversal of allowed places that passes a last test. Each test is turned into what it tells. Assumes nothing.
use mathlib.Core.Path.{◌≡◌, sym, ◌∙◌, ap}
use mathlib.Core.Logic.{◌⊎◌, inl, inr}
use mathlib.Core.Bool.{Bool, true, false, not, ◌&&◌, ◌||◌}
use mathlib.Core.List.{List, [], ◌∷◌, ◌++◌}
use Prim.Native.Nat.{ℕ, zero, suc, ◌+◌, ◌<◌}
use native.Mathlib.Decide.{ℕ_discrete}
use native.Mathlib.Omega.{arith}
use lib.Dec.{T, eqb, eqb→eq, eqb_refl, T_not, not_T}
use lib.ListN.{length, get_or, length-append, get_or-append}
use lib.Seq.{get_or-append-add}
use Rattle.theory.specs.Lists.{nums, flags}

-- ---- both, either, not, guarded
pub both : (a b : Bool) → T (a && b) → T a × T b
both false b t = elim t [ ]
both true false t = elim t [ ]
both true true t = (tt, tt)

pub and_both : (a b : Bool) → T a → T b → T (a && b)
and_both false b s t = elim s [ ]
and_both true false s t = elim t [ ]
and_both true true s t = tt

pub either : (a b : Bool) → T (a || b) → T a ⊎ T b
either true b t = inl tt
either false b t = inr t

pub left_either : (a b : Bool) → T a → T (a || b)
left_either false b t = elim t [ ]
left_either true b t = tt

pub right_either : (a b : Bool) → T b → T (a || b)
right_either true b t = tt
right_either false b t = t

-- every test of a list passes; then each does
unfoldable pub every : List Bool → Bool
every [] = true
every (b ∷ bs) = b && every bs

pub every_told : (bs : List Bool) → T (every bs) → (k : ℕ) → T (get_or bs k true)
unfolding every
every_told [] t k = tt
every_told (b ∷ bs) t zero = (both b (every bs) t).0
every_told (b ∷ bs) t (suc k) = every_told bs (both b (every bs) t).1 k

-- f, asked only if b passes
unfoldable pub guard : Bool → (Unit {0} → Bool) → Bool
guard true f = f tt
guard false f = false

pub guarded : (b : Bool) (f : Unit → Bool) → T (guard b f) → T b × T (f tt)
unfolding guard
guarded false f t = elim t [ ]
guarded true f t = (tt, t)

pub unguarded : (b : Bool) (f : Unit → Bool) → T b → T (f tt) → T (guard b f)
unfolding guard
unguarded false f s t = elim s [ ]
unguarded true f s t = t

-- ---- all and some of the numbers below n
unfoldable pub all : ℕ → (ℕ → Bool) → Bool
all zero f = true
all (suc n) f = f n && all n f

pub all_told : (n : ℕ) (f : ℕ → Bool) → T (all n f) → (i : ℕ) → i < n → T (f i)
unfolding all
all_told zero f t i h = absurd (omega arith)
all_told (suc n) f t i h = elim (ℕ_discrete i n) [ yes e ↦ rw e (both (f n) (all n f) t).0 | no ne ↦ all_told n f (both (f n) (all n f) t).1 i (omega arith) ]

pub all_tells : (n : ℕ) (f : ℕ → Bool) → ((i : ℕ) → i < n → T (f i)) → T (all n f)
unfolding all
all_tells zero f h = tt
all_tells (suc n) f h = and_both (f n) (all n f) (h n (omega arith)) (all_tells n f (λ i hi. h i (omega arith)))

unfoldable pub some : ℕ → (ℕ → Bool) → Bool
some zero f = false
some (suc n) f = f n || some n f

pub some_told : (n : ℕ) (f : ℕ → Bool) → T (some n f) → (i : ℕ) × (i < n) × T (f i)
unfolding some
some_told zero f t = elim t [ ]
some_told (suc n) f t = go (either (f n) (some n f) t) (some_told n f)
  where
    go : T (f n) ⊎ T (some n f) → (T (some n f) → (i : ℕ) × (i < n) × T (f i)) → (i : ℕ) × (i < suc n) × T (f i)
    go (inl u) rec = (n, omega arith, u)
    go (inr u) rec = let (i, hi, v) = rec u in (i, omega arith, v)

pub some_tells : (n : ℕ) (f : ℕ → Bool) (i : ℕ) → i < n → T (f i) → T (some n f)
unfolding some
some_tells zero f i h t = absurd (omega arith)
some_tells (suc n) f i h t =
    elim (ℕ_discrete i n) [ yes e ↦ left_either (f n) (some n f) (rw e at t) | no ne ↦ right_either (f n) (some n f) (some_tells n f i (omega arith) t) ]

-- ---- a list of the answers for the numbers below n
unfoldable pub listed : ℕ → (ℕ → Bool) → List Bool
listed zero f = []
listed (suc n) f = f 0 ∷ listed n (λ i. f (suc i))

pub listed_at : (n : ℕ) (f : ℕ → Bool) (i : ℕ) → T (flags (listed n f) i) → T (f i)
unfolding listed
listed_at zero f i t = absurd t
listed_at (suc n) f zero t = t
listed_at (suc n) f (suc i) t = listed_at n (λ i. f (suc i)) i t

-- ---- the search
-- Columns are chosen for the rows in order, allowed and fresh; where every row has one, the last test is asked.
module _ (n : ℕ) (allowed : ℕ → ℕ → Bool) (accept : List ℕ → Bool) where
  -- column j has not been chosen
  unfoldable pub fresh : List ℕ → ℕ → Bool
  fresh p j = not (some (length p) (λ i. eqb (nums p i) j))

  unfoldable pub search : ℕ → List ℕ → Bool
  search zero p = accept p
  search (suc r) p = some n (λ j. guard (allowed (length p) j && fresh p j) (λ u. search r (p ++ (j ∷ []))))

  -- columns for the first rows: inside, allowed and apart
  pub record Chosen (p : List ℕ) : Type 0 where
    pub inside : (i : ℕ) → i < length p → nums p i < n
    pub places : (i : ℕ) → i < length p → T (allowed i (nums p i))
    pub apart : (i k : ℕ) → i < length p → k < length p → nums p i ≡ nums p k → i ≡ k

  at_old : (p : List ℕ) (j i : ℕ) → i < length p → nums (p ++ (j ∷ [])) i ≡ nums p i
  at_old p j i h = get_or-append p (j ∷ []) 0 i h

  at_new : (p : List ℕ) (j : ℕ) → nums (p ++ (j ∷ [])) (length p) ≡ j
  at_new p j = ap (λ (k : ℕ). nums (p ++ (j ∷ [])) k) (sym (zero_right (length p))) ∙ get_or-append-add p (j ∷ []) 0 0
    where
      zero_right : (k : ℕ) → k + 0 ≡ k
      zero_right k = omega arith

  longer : (p : List ℕ) (j : ℕ) → length (p ++ (j ∷ [])) ≡ length p + 1
  longer p j = length-append p (j ∷ [])

  chosen_more : (p : List ℕ) (j : ℕ) → Chosen p → j < n → T (allowed (length p) j) → T (fresh p j) → Chosen (p ++ (j ∷ []))
  unfolding fresh
  chosen_more p j c hj ok new =
      record {
        inside = λ i hi. inside i (ℕ_discrete i (length p)) hi;
        places = λ i hi. places i (ℕ_discrete i (length p)) hi;
        apart = λ i k hi hk. apart i k (ℕ_discrete i (length p)) (ℕ_discrete k (length p)) hi hk;
      }
    where
      inside : (i : ℕ) → Dec (i ≡ length p) → i < length (p ++ (j ∷ [])) → nums (p ++ (j ∷ [])) i < n
      inside i (yes e) hi = rw (e, at_new p j) hj
      inside i (no ne) hi = let h : i < length p = omega (arith, longer p j) in rw (at_old p j i h) (c.inside i h)

      places : (i : ℕ) → Dec (i ≡ length p) → i < length (p ++ (j ∷ [])) → T (allowed i (nums (p ++ (j ∷ [])) i))
      places i (yes e) hi = rw (e, at_new p j) ok
      places i (no ne) hi = let h : i < length p = omega (arith, longer p j) in rw (at_old p j i h) (c.places i h)

      -- an earlier row does not have the fresh column
      other : (i : ℕ) → i < length p → nums p i ≡ j → ⊥
      other i h e = T_not (some (length p) (λ i. eqb (nums p i) j)) new (some_tells (length p) (λ i. eqb (nums p i) j) i h (rw e (eqb_refl j)))

      apart : (i k : ℕ) → Dec (i ≡ length p) → Dec (k ≡ length p) → i < length (p ++ (j ∷ [])) → k < length (p ++ (j ∷ []))
          → nums (p ++ (j ∷ [])) i ≡ nums (p ++ (j ∷ [])) k → i ≡ k
      apart i k (yes d) (yes e) hi hk eq = d ∙ sym e
      apart i k (yes d) (no ne) hi hk eq =
          let h : k < length p = omega (arith, longer p j) in
          absurd (other k h (sym (at_old p j k h) ∙ sym eq ∙ ap (nums (p ++ (j ∷ []))) d ∙ at_new p j))
      apart i k (no ne) (yes e) hi hk eq =
          let h : i < length p = omega (arith, longer p j) in
          absurd (other i h (sym (at_old p j i h) ∙ eq ∙ ap (nums (p ++ (j ∷ []))) e ∙ at_new p j))
      apart i k (no d) (no e) hi hk eq =
          let h : i < length p = omega (arith, longer p j) in
          let g : k < length p = omega (arith, longer p j) in
          c.apart i k h g (sym (at_old p j i h) ∙ eq ∙ at_old p j k g)

  -- what the search finds is there
  sound : (r : ℕ) (p : List ℕ) → length p + r ≡ n → Chosen p → T (search r p) → (q : List ℕ) × (length q ≡ n) × Chosen q × T (accept q)
  unfolding search
  sound zero p e c t = (p, omega arith, c, t)
  sound (suc r) p e c t =
      let (j, hj, g) = some_told n (λ j. guard (allowed (length p) j && fresh p j) (λ u. search r (p ++ (j ∷ [])))) t in
      let (ok, u) = guarded (allowed (length p) j && fresh p j) (λ u. search r (p ++ (j ∷ []))) g in
      let (a, f) = both (allowed (length p) j) (fresh p j) ok in
      sound r (p ++ (j ∷ [])) (omega (arith, longer p j)) (chosen_more p j c hj a f) u

  -- what is there the search finds
  module _ (τ : ℕ → ℕ) (inside : (i : ℕ) → i < n → τ i < n) (places : (i : ℕ) → i < n → T (allowed i (τ i)))
      (apart : (i k : ℕ) → i < n → k < n → τ i ≡ τ k → i ≡ k)
      (accepted : (q : List ℕ) → length q ≡ n → ((i : ℕ) → i < n → nums q i ≡ τ i) → T (accept q)) where
    complete : (r : ℕ) (p : List ℕ) → length p + r ≡ n → ((i : ℕ) → i < length p → nums p i ≡ τ i) → T (search r p)
    unfolding search fresh
    complete zero p e agree = accepted p (omega arith) (λ i hi. agree i (omega arith))
    complete (suc r) p e agree =
        let j = τ (length p) in
        some_tells n (λ j. guard (allowed (length p) j && fresh p j) (λ u. search r (p ++ (j ∷ [])))) j (inside (length p) (omega arith))
        (unguarded (allowed (length p) j && fresh p j) (λ u. search r (p ++ (j ∷ [])))
        (and_both (allowed (length p) j) (fresh p j) (places (length p) (omega arith)) (not_T (some (length p) (λ i. eqb (nums p i) j)) old))
        (complete r (p ++ (j ∷ [])) (omega (arith, longer p j)) (λ i hi. next i (ℕ_discrete i (length p)) hi)))
      where
        old : T (some (length p) (λ i. eqb (nums p i) (τ (length p)))) → ⊥
        old t =
            let (i, hi, u) = some_told (length p) (λ i. eqb (nums p i) (τ (length p))) t in
            omega (arith, apart i (length p) (omega arith) (omega arith) (sym (agree i hi) ∙ eqb→eq (nums p i) (τ (length p)) u))

        next : (i : ℕ) → Dec (i ≡ length p) → i < length (p ++ (τ (length p) ∷ [])) → nums (p ++ (τ (length p) ∷ [])) i ≡ τ i
        next i (yes d) hi = rw d (at_new p (τ (length p)))
        next i (no d) hi = let h : i < length p = omega (arith, longer p (τ (length p))) in at_old p (τ (length p)) i h ∙ agree i h

  unfoldable pub found : Bool
  found = search n []

  pub found_told : T found → (q : List ℕ) × (length q ≡ n) × Chosen q × T (accept q)
  unfolding found
  found_told t =
      sound n [] (omega arith) (record { inside = λ i h. absurd (omega arith); places = λ i h. absurd (omega arith); apart = λ i k h. absurd (omega arith) }) t

  pub found_tells : (τ : ℕ → ℕ) → ((i : ℕ) → i < n → τ i < n) → ((i : ℕ) → i < n → T (allowed i (τ i)))
      → ((i k : ℕ) → i < n → k < n → τ i ≡ τ k → i ≡ k) → ((q : List ℕ) → length q ≡ n → ((i : ℕ) → i < n → nums q i ≡ τ i) → T (accept q))
      → T found
  unfolding found
  found_tells τ inside places apart accepted = complete τ inside places apart accepted n [] (omega arith) (λ i h. absurd (omega arith))
