-- What the promises of the routes and of the yes-or-no give, from what their tests say: about the promises, not about the code. The
-- demands (Demands.antt) are made of these. Assumes nothing.
use mathlib.Core.Path.{◌≡◌, refl, sym, ◌∙◌, ap}
use mathlib.Core.Bool.{Bool, true, false}
use mathlib.Core.List.{List, [], ◌∷◌}
use Prim.Native.Nat.{ℕ, ◌*◌, ◌≤◌}
use native.Mathlib.Omega.{arith}
use lib.IntN.{ℤ}
use lib.ListN.{length}
use lib.Seq.{ext_get_or}
use Rattle.theory.specs.Limits.{row_limit, order_limit, FoundWithin}
use Rattle.theory.specs.Lists.{nums, ints, columns, StarList}
use Rattle.theory.specs.Table.{entry, Entries}
use Rattle.theory.specs.Canon.{SomeTransversal, Simplest, Greatest, Misplaced, on_absent, exceeded, Solution, sum}
use Rattle.theory.specs.Cases.{Handed, nothing, additions, stars, Answerable}
use Rattle.theory.proofs.Signed.{signed}
use Rattle.theory.proofs.Unique.{least_once}
use Rattle.theory.proofs.Bounds as bounds
use Rattle.theory.proofs.Decisions.{canon_known, not_less}
use Rattle.orders.specs.Refusals.{Test, First, Clear, RightLengths, Said, gives, refuses, says}
use Rattle.orders.proofs.Refusals.{first_once, first_clear, given_once, not_both, right_lengths}
use Rattle.orders.proofs.Entries.{clash}
use Rattle.orders.proofs.Places.{within}
use Rattle.handed.specs.Conditions.{each, slices, NotGreatest, basic, table_more, canon_more, star_more}
use Rattle.handed.specs.Handed.{Sound}
use Rattle.handed.proofs.Basics.{in_size, sized, entries_known, additions_known, additions_right, stars_known, stars_right}
use Rattle.canon.specs.Answers.{Answer, Verdict}
use Rattle.canon.specs.Promises.{Routed, refused, answered, Judges, declines, says_yes, says_no}
use Rattle.canon.specs.Demands.{Buffers, buffers, lengths, WellFormed, Wanted, Route, tests, verdict_tests}
use Rattle.canon.proofs.Refusing.{past_clear}

-- ---- the promise of a route, whatever its tests
abbrev pub Routes : List Test → ℕ → List ℤ → Buffers → Answer → Buffers → Type 0
Routes ts n t b r b' = Routed ts n t b.adds b.stars b.heads r b'.adds b'.stars b'.heads

pub routes : (n : ℕ) (t : List ℤ) (start : Handed) (b b' : Buffers) (r : Answer) → Route n t start b r b' → Routes (tests n t start b) n t b r b'
routes n t nothing b b' r p = p
routes n t (additions l) b b' r p = p
routes n t (stars s) b b' r p = p

pub same_buffers : (b c : Buffers) → b.adds ≡ c.adds → b.stars ≡ c.stars → b.heads ≡ c.heads → b ≡ c
same_buffers b c x y z =
    ap (λ v. buffers v b.stars b.heads) x ∙ ap (λ v. buffers c.adds v b.heads) y ∙ ap (λ v. buffers c.adds c.stars v) z

-- what a route that answers s writes
pub record Result (n : ℕ) (t : List ℤ) (b : Buffers) (s : ℤ) : Type 0 where
  pub adds_long : length b.adds ≡ n
  pub star_list : StarList n b.stars
  pub heads_long : length b.heads ≡ n
  pub solution : Solution n (entry t n) (λ i. 0) (nums b.adds) (columns b.stars) (ints b.heads) s

module _ {ts : List Test} {n : ℕ} {t : List ℤ} {r : Answer} (b b' : Buffers) where
  -- the first test that applies is given, and everything is as it was
  pub routed_refused : Routes ts n t b r b' → (k : ℕ) → First ts k → (says r ≡ refuses k []) × (b' ≡ b)
  routed_refused (refused j q says x y z) k l =
      (says ∙ ap (λ (i : ℕ). refuses i []) (first_once ts j k q l), same_buffers b' b x y z)
  routed_refused (answered s clear says la ls lh sol) k l = absurd (first_clear ts k l clear)

  -- and nothing else is refused
  pub routed_due : Routes ts n t b r b' → (k : ℕ) (vs : List ℕ) → says r ≡ refuses k vs → First ts k × (vs ≡ [])
  routed_due (refused j q says x y z) k vs e =
      let h : ◌≡◌ {A = Said ℤ} (refuses j []) (refuses k vs) = sym says ∙ e in
      let same : j ≡ k = cc in
      let none : vs ≡ [] = cc in
      (rw same at q, none)
  routed_due (answered s clear says la ls lh sol) k vs e = not_both s k vs (sym says ∙ e)

  -- where no test applies there is an answer,
  pub routed_answers : Routes ts n t b r b' → Clear ts → (s : ℤ) × (says r ≡ gives s)
  routed_answers (refused k l says x y z) clear = absurd (first_clear ts k l clear)
  routed_answers (answered s c says la ls lh sol) clear = (s, says)

  -- and where there is one, no test applies, and it is the table's
  pub routed_result : Routes ts n t b r b' → (s : ℤ) → says r ≡ gives s → Clear ts × Result n t b' s
  routed_result (refused k l says x y z) s e = not_both s k [] (sym e ∙ says)
  routed_result (answered z clear says la ls lh sol) s e =
      (clear, record { adds_long = la; star_list = ls; heads_long = lh; solution = rw (given_once s z (sym e ∙ says)) sol })

  -- a call that may not answer refuses
  pub routed_otherwise : Routes ts n t b r b' → ((s : ℤ) → says r ≡ gives s → ⊥) → (k : ℕ) × (says r ≡ refuses k []) × (b' ≡ b)
  routed_otherwise (refused k l says x y z) none = (k, says, same_buffers b' b x y z)
  routed_otherwise (answered s clear says la ls lh sol) none = absurd (none s says)

-- ---- what the tests say of what is handed in
-- a transversal of greatest sum is not misplaced, and stars that are not misplaced have the greatest sum
well_placed : {n : ℕ} {a : ℕ → ℕ → ℤ} {σ : ℕ → ℕ} → Greatest n a σ → Misplaced n a σ → ⊥
well_placed g (on_absent i hi e) = g.transversal.present i hi e
well_placed {n} {a} {σ} g (exceeded τ t lt) = omega (arith, signed, g.greatest τ t)

placed_greatest : (n : ℕ) (t : List ℤ) (s : List ℕ) → StarList n s → (NotGreatest n t s → ⊥) → Greatest n (entry t n) (columns s)
placed_greatest n t s list f =
    record {
      transversal = record {
        inside = λ i hi. omega (arith, list.from_one i hi, list.to_size i hi);
        present = λ i hi e. f (on_absent i hi e);
        apart = λ i k hi hk e. list.none_twice i k hi hk (omega (arith, list.from_one i hi, list.from_one k hk, e));
      };
      greatest = λ τ u. not_less (sum n (entry t n) (columns s)) (sum n (entry t n) τ) (λ lt. f (exceeded τ u lt));
    }

module _ (n : ℕ) (t : List ℤ) where
  -- the first three tests, of slices with the lengths ks
  pub sound_clear : (ks : List ℕ) (more : List Test) → Clear (basic n t ks more) → Sound n t ks
  sound_clear ks more clear =
      let right = right_lengths (slices n t ks) clear.1.0 in
      record {
        in_size = clear.0;
        square = record { small = (sized clear.0).1; square = right.0 };
        fitting = right.1;
        entries = entries_known t clear.1.1.0;
      }

  pub sound_formed : {ks : List ℕ} → Sound n t ks → WellFormed n t
  sound_formed s =
      record { some = (sized s.in_size).0; few = s.square.small; square = s.square.square; entries = s.entries }

  pub formed_sound : (ks : List ℕ) → WellFormed n t → RightLengths (each n ks) → Sound n t ks
  formed_sound ks w f =
      record {
        in_size = in_size (λ e. omega (arith, w.some)) w.few;
        square = record { small = w.few; square = w.square };
        fitting = f;
        entries = w.entries;
      }

  pub own_lengths : (b : Buffers) → Wanted n b → RightLengths (each n (lengths b))
  own_lengths b w = (w.adds_long, (w.stars_long, (w.heads_long, tt)))

  -- where no test applies, the table is well-formed, and what is handed in leads to an answer
  pub clear_formed : (start : Handed) (b : Buffers) → Clear (tests n t start b) → WellFormed n t
  clear_formed nothing b clear = sound_formed (sound_clear (lengths b) (table_more n t) clear)
  clear_formed (additions l) b clear = sound_formed (sound_clear (length l ∷ lengths b) (canon_more n t l) clear)
  clear_formed (stars s) b clear = sound_formed (sound_clear (length s ∷ lengths b) (star_more n t s) clear)

  pub clear_leads : (start : Handed) (b : Buffers) → Clear (tests n t start b) → Answerable n (entry t n) start
  clear_leads nothing b clear = tt
  clear_leads (additions l) b clear =
      let long = (sound_clear (length l ∷ lengths b) (canon_more n t l) clear).fitting.0 in (
        long,
        λ i hi. additions_known l clear.1.1.1.0 i (omega (arith, long)),
        elim (canon_known n (entry t n) (nums l)) [ yes c ↦ c | no f ↦ absurd (clear.1.1.1.1.1.0 f) ],
      )
  clear_leads (stars s) b clear =
      let list = stars_known n s (sound_clear (length s ∷ lengths b) (star_more n t s) clear).fitting.0 clear.1.1.1.0 in
      (list, placed_greatest n t s list clear.1.1.1.1.1.0)

  -- and the other way
  canon_passed : (l : List ℕ) → Answerable n (entry t n) (additions l) → Clear (canon_more n t l)
  canon_passed l g = (
    additions_right (λ i hi. g.1 i (omega (arith, g.0))),
    ((λ none. none g.2.columns g.2.of_maxima.transversal), ((λ f. f g.2), tt)),
  )

  module _ (w : WellFormed n t) (b : Buffers) (f : Wanted n b) where
    pub alone_clear : SomeTransversal n (entry t n) → Clear (tests n t nothing b)
    alone_clear e = past_clear (formed_sound (lengths b) w (own_lengths b f)) (table_more n t) ((λ none. none e.0 e.1), tt)

    pub canon_clear : (l : List ℕ) → Answerable n (entry t n) (additions l) → Clear (tests n t (additions l) b)
    canon_clear l g = past_clear (formed_sound (length l ∷ lengths b) w (g.0, own_lengths b f)) (canon_more n t l) (canon_passed l g)

    pub greatest_clear : (s : List ℕ) → Answerable n (entry t n) (stars s) → Clear (tests n t (stars s) b)
    greatest_clear s g =
        past_clear (formed_sound (length s ∷ lengths b) w (g.0.long, own_lengths b f)) (star_more n t s)
        (stars_right g.0, ((λ none. none (columns s) g.1.transversal), (well_placed g.1, tt)))

  pub verdict_clear : WellFormed n t → (given : List ℕ) → Answerable n (entry t n) (additions given) → Clear (verdict_tests n t given)
  verdict_clear w given g = past_clear (formed_sound (length given ∷ []) w (g.0, tt)) (canon_more n t given) (canon_passed given g)

-- ---- the yes-or-no
module _ {n : ℕ} {t : List ℤ} {given : List ℕ} {v : Verdict} where
  pub judged_refused : Judges n t given v → (k : ℕ) → First (verdict_tests n t given) k → says v ≡ refuses k []
  judged_refused (declines j q says) k l = says ∙ ap (λ (i : ℕ). refuses i []) (first_once (verdict_tests n t given) j k q l)
  judged_refused (says_yes clear says s) k l = absurd (first_clear (verdict_tests n t given) k l clear)
  judged_refused (says_no clear says f) k l = absurd (first_clear (verdict_tests n t given) k l clear)

  pub judged_due : Judges n t given v → (k : ℕ) (vs : List ℕ) → says v ≡ refuses k vs → First (verdict_tests n t given) k × (vs ≡ [])
  judged_due (declines j q says) k vs e =
      let h : ◌≡◌ {A = Said Bool} (refuses j []) (refuses k vs) = sym says ∙ e in
      let same : j ≡ k = cc in
      let none : vs ≡ [] = cc in
      (rw same at q, none)
  judged_due (says_yes clear says s) k vs e = not_both true k vs (sym says ∙ e)
  judged_due (says_no clear says f) k vs e = not_both false k vs (sym says ∙ e)

  -- yes to the simplest canon, and to nothing else
  pub judged_yes : Judges n t given v → says v ≡ gives true → Simplest n (entry t n) (nums given) × (length given ≡ n)
  judged_yes (declines k l says) e = not_both true k [] (sym e ∙ says)
  judged_yes (says_yes clear says s) e = (s, (sound_clear n t (length given ∷ []) (canon_more n t given) clear).fitting.0)
  judged_yes (says_no clear says f) e = clash (sym (given_once true false (sym e ∙ says))) refl

  pub yes_judged : Judges n t given v → Clear (verdict_tests n t given) → Simplest n (entry t n) (nums given) → says v ≡ gives true
  yes_judged (declines k l says) clear s = absurd (first_clear (verdict_tests n t given) k l clear)
  yes_judged (says_yes c says u) clear s = says
  yes_judged (says_no c says f) clear s = absurd (f s)

  pub no_judged : Judges n t given v → Clear (verdict_tests n t given) → (Simplest n (entry t n) (nums given) → ⊥) → says v ≡ gives false
  no_judged (declines k l says) clear f = absurd (first_clear (verdict_tests n t given) k l clear)
  no_judged (says_yes c says s) clear f = absurd (f s)
  no_judged (says_no c says g) clear f = says

-- additions of the wanted length that are a simplest canon are those that a route wrote
pub simplest_same : {n : ℕ} {t : List ℤ} {s : ℤ} (b : Buffers) (given : List ℕ) → Result n t b s → length given ≡ n
    → Simplest n (entry t n) (nums given) → given ≡ b.adds
simplest_same {n} {t} b given r long simple =
    ext_get_or 0 given b.adds (long ∙ sym r.adds_long) (λ i hi. least_once n (entry t n) simple r.solution.additions i (omega arith))

-- ---- document 01's table of limits
pub found_within : {n : ℕ} (t : List ℤ) (adds starred : List ℕ) (heads : List ℤ) {s : ℤ} → n ≤ row_limit → length t ≡ n * n → Entries order_limit t
    → Solution n (entry t n) (λ i. 0) (nums adds) (columns starred) (ints heads) s → FoundWithin n (nums adds) (ints heads) s
found_within {n} t adds starred heads few square entries sol =
    bounds.found_within n (entry t n) few (within order_limit n t square entries) sol

pub result_within : {n : ℕ} {t : List ℤ} {s : ℤ} (b : Buffers) → WellFormed n t → Result n t b s
    → FoundWithin n (nums b.adds) (ints b.heads) s
result_within {t = t} b w r = found_within t b.adds b.stars b.heads w.few w.square w.entries r.solution
