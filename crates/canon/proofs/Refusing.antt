-- Which refusal is the first that applies, from what the tests told. Assumes nothing.
use mathlib.Core.Path.{◌≡◌, refl, sym, ◌∙◌, ap}
use mathlib.Core.Logic.{inl, inr}
use mathlib.Core.Bool.{Bool, true, false}
use mathlib.Core.List.{List, [], ◌∷◌}
use Prim.Native.Nat.{ℕ}
use native.Mathlib.Omega.{arith}
use lib.IntN.{ℤ}
use lib.ListN.{length}
use Rattle.std.specs.Prelude.{Result, Ok, Err, Option, None}
use Rattle.theory.specs.Lists.{nums}
use Rattle.theory.specs.Table.{entry}
use Rattle.theory.specs.Canon.{NoTransversal}
use Rattle.theory.proofs.Unique.{misplaced_same}
use Rattle.orders.specs.Refusals.{number_of, values_of, Test, ◌given_when◌, First, Clear, RightLengths, gives, refuses, says}
use Rattle.orders.specs.declared.Refusal.{Refusal}
use Rattle.orders.specs.declared.Refusal.TheVariants.{Addition, StarList}
use Rattle.orders.specs.declared.marks.Marked.{Marked}
use Rattle.orders.proofs.Refusals.{right_not_wrong}
use Rattle.handed.specs.Conditions.{NotGreatest, each, slices, basic, canon_more, canon_tests, star_more, star_tests}
use Rattle.handed.specs.Handed.{Sound, Basic, WithinAs, Listed, ListedAs}
use Rattle.handed.proofs.Basics.{entries_right, additions_right, stars_right}
use Rattle.outcome.specs.Completion.{Slices}
use Rattle.routes.specs.Routes.{GivenAdditions, Reduces, ReducedFrom, GivenColumns, raised_tests, Raises, RaisedFrom}
use Rattle.routes.specs.declared.Reduced.{Reduced}
use Rattle.canon.specs.Answers.{Answer}
use Rattle.canon.specs.Promises.{Routed, refused, Judges, declines, says_yes, says_no}

-- a refusal that is the first of the first three is the first of all
pub first_of_all : (n : ℕ) (t : List ℤ) (ks : List ℕ) (more : List Test) (k : ℕ) → First (basic n t ks []) k → First (basic n t ks more) k
first_of_all n t ks more k (inl p) = inl p
first_of_all n t ks more k (inr (s, inl p)) = inr (s, inl p)
first_of_all n t ks more k (inr (s, inr (w, inl p))) = inr (s, inr (w, inl p))
first_of_all n t ks more k (inr (s, inr (w, inr p))) = absurd p.1

-- a route, and the yes-or-no, that refuse by one of the first three
module _ {n : ℕ} {t : List ℤ} {ks : List ℕ} {r : Result Unit Refusal} (b : Basic n t ks r) (q : Refusal) (e : r ≡ Err q) where
  pub refuse_first : {more : List Test} {adds stars : List ℕ} {heads : List ℤ}
      → Routed (basic n t ks more) n t adds stars heads (Err q) adds stars heads
  refuse_first {more} =
      let p = b.refused q e in
      refused (number_of q) (first_of_all n t ks more (number_of q) p.0) (ap (refuses (number_of q)) p.1) refl refl refl

pub decline_first : {n : ℕ} {t : List ℤ} {given : List ℕ} {r : Result Unit Refusal} → Basic n t (length given ∷ []) r → (q : Refusal) → r ≡ Err q
    → Judges n t given (Err q)
decline_first {n} {t} {given} b q e =
    let p = b.refused q e in
    declines (number_of q) (first_of_all n t (length given ∷ []) (canon_more n t given) (number_of q) p.0) (ap (refuses (number_of q)) p.1)

module _ {n : ℕ} {t : List ℤ} {ks : List ℕ} (s : Sound n t ks) where
  -- the first three do not apply: what the other tests say is said of all
  pub past_first : (more : List Test) (k : ℕ) → First more k → First (basic n t ks more) k
  past_first more k l = inr (s.in_size, inr (right_not_wrong (slices n t ks) (s.square.square, s.fitting), inr (entries_right s.entries, l)))

  pub past_clear : (more : List Test) → Clear more → Clear (basic n t ks more)
  past_clear more l = (s.in_size, (right_not_wrong (slices n t ks) (s.square.square, s.fitting), (entries_right s.entries, l)))

  -- a route that refuses by a later test
  pub refuse_later : {more : List Test} {adds stars : List ℕ} {heads : List ℤ} {a : Answer} (k : ℕ) → First more k → says a ≡ refuses k []
      → Routed (basic n t ks more) n t adds stars heads a adds stars heads
  refuse_later {more = more} k l says = refused k (past_first more k l) says refl refl refl

  -- or with the refusal that such a test tells
  pub refuse_with : {more : List Test} {adds stars : List ℕ} {heads : List ℤ} (q : Refusal) → First more (number_of q) × (values_of q ≡ [])
      → Routed (basic n t ks more) n t adds stars heads (Err q) adds stars heads
  refuse_with {more = more} q p = refused (number_of q) (past_first more (number_of q) p.0) (ap (refuses (number_of q)) p.1) refl refl refl

-- ---- additions handed in: the tests of what is within the limit come after the fourth
module _ {n : ℕ} {t : List ℤ} {given : List ℕ} (a : WithinAs given true) where
  canon_later : {r : Result Reduced Refusal} → ReducedFrom t n given r → (q : Refusal) → r ≡ Err q → First (canon_more n t given) (number_of q) × (values_of q ≡ [])
  canon_later f q e = let p = f.refused q e in (inr (additions_right (a.within refl), p.0), p.1)

  pub canon_passed : {x : Reduced} → Reduces t n given x → Clear (canon_more n t given)
  canon_passed x = (additions_right (a.within refl), ((λ none. none _ x.least.canon.of_maxima.transversal), ((λ no_one. no_one x.is_canon), tt)))

-- route 2
module _ {n : ℕ} {t : List ℤ} {given ks adds stars : List ℕ} {heads : List ℤ} (s : Sound n t ks) where
  pub refuse_addition : WithinAs given false → Routed (canon_tests n t given ks) n t adds stars heads (Err Addition) adds stars heads
  refuse_addition a = refuse_later s 4 (inl (a.above refl, refl)) refl

  pub refuse_reduced : WithinAs given true → {r : Result Reduced Refusal} → ReducedFrom t n given r → (q : Refusal) → r ≡ Err q
      → Routed (canon_tests n t given ks) n t adds stars heads (Err q) adds stars heads
  refuse_reduced a f q e = refuse_with s q (canon_later a f q e)

-- and the yes-or-no
module _ {n : ℕ} {t : List ℤ} {given : List ℕ} (s : Sound n t (length given ∷ [])) where
  decline_with : (q : Refusal) → First (canon_more n t given) (number_of q) × (values_of q ≡ []) → Judges n t given (Err q)
  decline_with q p = declines (number_of q) (past_first s (canon_more n t given) (number_of q) p.0) (ap (refuses (number_of q)) p.1)

  pub decline_addition : WithinAs given false → Judges n t given (Err Addition)
  decline_addition a = decline_with Addition (inl (a.above refl, refl), refl)

  pub decline_reduced : WithinAs given true → {r : Result Reduced Refusal} → ReducedFrom t n given r → (q : Refusal) → r ≡ Err q → Judges n t given (Err q)
  decline_reduced a f q e = decline_with q (canon_later a f q e)

  pub judge : WithinAs given true → {x : Reduced} → Reduces t n given x → Judges n t given (Ok x.unchanged)
  judge a {x} f = go x.unchanged refl
    where
      go : (b : Bool) → x.unchanged ≡ b → Judges n t given (Ok x.unchanged)
      go true e = says_yes (past_clear s (canon_more n t given) (canon_passed a f)) (ap gives e) (f.judged.holds e)
      go false e = says_no (past_clear s (canon_more n t given) (canon_passed a f)) (ap gives e) (f.judged.fails e)

-- ---- stars handed in: the same
module _ {n : ℕ} {t : List ℤ} {given ks adds stars : List ℕ} {heads : List ℤ} (s : Sound n t ks) where
  pub refuse_stars : {o : Option Marked} → ListedAs n given o → o ≡ None → Routed (star_tests n t given ks) n t adds stars heads (Err StarList) adds stars heads
  refuse_stars m e = refuse_later s 5 (inl (m.wrong e, refl)) refl

  pub refuse_raised : {m : Marked} → Listed n given m → {r : Result (List ℕ) Refusal} → RaisedFrom t n m.columns r → (q : Refusal) → r ≡ Err q
      → Routed (star_tests n t given ks) n t adds stars heads (Err q) adds stars heads
  refuse_raised {m} l f q e = let p = f.refused q e in refuse_with s q (inr (stars_right l.star_list, go (number_of q) p.0), p.1)
    where
      go : (k : ℕ) → First (raised_tests n t m.columns) k → First (6 given_when NoTransversal n (entry t n) ∷ 8 given_when NotGreatest n t given ∷ []) k
      go k (inl p) = inl p
      go k (inr (some, inl (w, i))) = inr (some, inl (misplaced_same n (entry t n) l.same w, i))
      go k (inr (some, inr p)) = absurd p.1

pub stars_passed : {n : ℕ} {t : List ℤ} {given l : List ℕ} {m : Marked} → Listed n given m → Raises t n m.columns l → Clear (star_more n t given)
stars_passed {n} {t} l f = (
  stars_right l.star_list,
  ((λ none. none _ f.least.canon.of_maxima.transversal), ((λ w. f.placed (misplaced_same n (entry t n) (λ i hi. sym (l.same i hi)) w)), tt)),
)

-- ---- what later calls are given
-- the lent slices have a place for each row
pub lent : {n : ℕ} {adds stars : List ℕ} {heads : List ℤ} → RightLengths (each n (length adds ∷ length stars ∷ length heads ∷ []))
    → Slices n adds stars heads
lent f = record { adds_long = f.0; stars_long = f.1.0; heads_long = f.1.1.0 }

-- additions within the limit
pub given_additions : {n : ℕ} {t : List ℤ} {given ks : List ℕ} → Sound n t (length given ∷ ks) → WithinAs given true → GivenAdditions t n given
given_additions s a =
    let long = s.fitting.0 in
    record { entries = s.entries; long = long; limited = λ i hi. a.within refl i (omega (arith, long)) }

-- the columns of a star list
pub given_columns : {n : ℕ} {t : List ℤ} {given ks : List ℕ} {m : Marked} → Sound n t ks → Listed n given m → GivenColumns t n m.columns
given_columns {m = m} s l =
    record {
      entries = s.entries;
      inside = l.marks.column;
      apart = λ i j hi hj e. sym (l.marks.back i hi) ∙ ap (nums m.rows) e ∙ l.marks.back j hj;
    }
