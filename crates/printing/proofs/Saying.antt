-- What the answer of a table and of a sheet says, from the promises of the solver, of the search for heads and of the reader. Assumes
-- nothing.
use mathlib.Core.Path.{◌≡◌, refl, sym, ap, subst, ◌∙◌}
use mathlib.Core.List.{List, [], ◌∷◌, ◌++◌}
use mathlib.Core.Logic.{inl, inr}
use Prim.Native.Nat.{ℕ, ◌*◌, ◌≤◌}
use native.Mathlib.Nat.{mul-le-mul}
use native.Mathlib.Omega.{arith}
use lib.IntN.{ℤ}
use lib.ListN.{length, take, drop, length-append, get_or-append}
use lib.Seq.{take_at, get_or-take, length-take-le}
use Rattle.std.specs.Prelude.{Result, Ok, Err}
use Rattle.theory.specs.Limits.{row_limit}
use Rattle.theory.specs.Lists.{nums}
use Rattle.theory.specs.Table.{entry}
use Rattle.theory.specs.Canon.{NoTransversal, Ties}
use Rattle.theory.proofs.Ties.{holders_same}
use Rattle.orders.specs.declared.Refusal.{Refusal}
use Rattle.orders.specs.Places.{UnderCeiling}
use Rattle.orders.specs.Refusals.{number_of, values_of, First, Said, gives, refuses, refusal, says}
use Rattle.orders.proofs.Refusals.{given_once, not_both, right_not_wrong, same_refusal}
use Rattle.handed.specs.Conditions.{slices, table_tests}
use Rattle.handed.specs.Handed.{Sound}
use Rattle.handed.proofs.Basics.{entries_right, sized}
use Rattle.canon.specs.Answers.{Answer}
use Rattle.canon.specs.Promises.{Solves, refused, answered}
use Rattle.canon.proofs.Theorems.{found_within}
use Rattle.sheet.specs.Text.{over}
use Rattle.sheet.specs.Sheet.{Labelled, IsSheet, TooLong}
use Rattle.reader.specs.Promise as reading
use Rattle.reader.proofs.PromiseLaws.{lengths_right}
use Rattle.page.specs.Printed.{Figures, figures}
use Rattle.index_figure.specs.Parts.{HeadsKnown, IndexOf}
use Rattle.printing.specs.Promise.{TableSays, no_transversal, solved, SheetSays, too_long, wrong_line, of_table, Prints}
use Rattle.printing.proofs.Fits.{stands_sound}

-- ---- the solver
-- slices of a table's size
pub record Sized (n : ℕ) (a s : List ℕ) (z : List ℤ) : Type 0 where
  pub adds_long : length a ≡ n
  pub stars_long : length s ≡ n
  pub heads_long : length z ≡ n

-- A table that was read and slices of its size: only refusal 6 is left to the solver.
only_six : {n : ℕ} {t : List ℤ} {a s : List ℕ} {z : List ℤ} → Sound n t [] → Sized n a s z → (k : ℕ)
    → First (table_tests n t (length a ∷ length s ∷ length z ∷ [])) k → (k ≡ 6) × NoTransversal n (entry t n)
only_six h w k (inl l) = absurd (h.in_size l.0)
only_six {n} {t} {a} {s} {z} h w k (inr (p, inl l)) =
    absurd
    (right_not_wrong (slices n t (length a ∷ length s ∷ length z ∷ []))
    (h.square.square, (w.adds_long, (w.stars_long, (w.heads_long, tt)))) l.0)
only_six h w k (inr (p, inr (q, inl l))) = absurd (entries_right h.entries l.0)
only_six h w k (inr (p, inr (q, inr (u, inl l)))) = (l.1, l.0)
only_six h w k (inr (p, inr (q, inr (u, inr l)))) = absurd l.1

module _ {n : ℕ} {t : List ℤ} {a s a' s' : List ℕ} {z z' : List ℤ} {r : Answer} (h : Sound n t []) (l : Sized n a s z) (p : Solves n t a s z r a' s' z') where
  pub solved_sized : Sized n a' s' z'
  solved_sized = go p
    where
      go : Solves n t a s z r a' s' z' → Sized n a' s' z'
      go (refused k low e ea es ez) =
          record { adds_long = ap length ea ∙ l.adds_long; stars_long = ap length es ∙ l.stars_long; heads_long = ap length ez ∙ l.heads_long }
      go (answered v c e la st lz w) = record { adds_long = la; stars_long = st.long; heads_long = lz }

  -- The additions found are far under the ceiling, also in an array that holds them at its front: heads can be searched under them.
  pub solved_low : (b : List ℕ) (v : ℤ) → r ≡ Ok v → UnderCeiling n (a' ++ b)
  solved_low b v q = go p
    where
      go : Solves n t a s z r a' s' z' → UnderCeiling n (a' ++ b)
      go (refused k low e ea es ez) = not_both v k [] (sym (ap says q) ∙ e)
      go (answered w c e la st lz f) = λ i hi.
          let found = found_within t a' s' z' (sized h.in_size).1 h.square.square h.entries f in
          rw (get_or-append a' b 0 i (omega arith)) (omega (arith, found.addition_most i hi))

  -- The ties under the array of the additions are the ties under the additions.
  counted_ties : (b k : List ℕ) → Ties n (entry t n) (nums (a' ++ b)) (nums k) → Ties n (entry t n) (nums a') (nums (take n k))
  counted_ties b k o j hj =
      rw (get_or-take n k j 0 hj)
      (holders_same n (entry t n) (λ i hi. get_or-append a' b 0 i (omega (arith, solved_sized.adds_long))) (o j hj))

  -- The figures that the solver wrote, the ties, and the index figure of the additions, are those of the table.
  solved_says : (c : List ℕ) (v : ℤ) (x : ℕ) → r ≡ Ok v → length c ≡ n → Ties n (entry t n) (nums a') (nums c) → IndexOf t a' x
      → TableSays n t (gives (figures a' s' z' c v x))
  solved_says c v x q lc o m = go p
    where
      go : Solves n t a s z r a' s' z' → TableSays n t (gives (figures a' s' z' c v x))
      go (refused k low e ea es ez) = not_both v k [] (sym (ap says q) ∙ e)
      go (answered w clear e la st lz f) =
          solved (figures a' s' z' c v x)
          (record {
            adds_long = la;
            star_list = st;
            heads_long = lz;
            ties_long = lc;
            solution = rw (given_once w v (sym e ∙ ap says q)) at f;
            is_ties = o;
            is_index = rw la at m;
          }) refl

  -- The index figure can be worked out from the table, the additions and the heads, which stand at the front of arrays.
  pub solved_known : (b : List ℕ) (d : List ℤ) (v : ℤ) → r ≡ Ok v → HeadsKnown t (take n (a' ++ b)) (take n (z' ++ d))
  solved_known b d v q = rw (take_at a' b n solved_sized.adds_long, take_at z' d n solved_sized.heads_long) (go p)
    where
      go : Solves n t a s z r a' s' z' → HeadsKnown t a' z'
      go (refused k low e ea es ez) = not_both v k [] (sym (ap says q) ∙ e)
      go (answered w c e la st lz f) =
          let found = found_within t a' s' z' (sized h.in_size).1 h.square.square h.entries f in
          record {
            some = omega (arith, (sized h.in_size).0);
            square = h.square.square ∙ ap (λ i. i * i) (sym la);
            heads_long = lz ∙ sym la;
            heads = rw la f.heads;
            low = λ i hi. omega (arith, found.addition_most i (omega arith));
          }

  -- they stand at the front of arrays
  pub front_says : (b c k : List ℕ) (d : List ℤ) (v : ℤ) (x : ℕ) → r ≡ Ok v → Ties n (entry t n) (nums (a' ++ b)) (nums k) → n ≤ length k
      → IndexOf t (take n (a' ++ b)) x
      → TableSays n t (gives (figures (take n (a' ++ b)) (take n (s' ++ c)) (take n (z' ++ d)) (take n k) v x))
  front_says b c k d v x q o inside m =
      let w = solved_sized in
      rw (take_at a' b n w.adds_long, take_at s' c n w.stars_long, take_at z' d n w.heads_long)
      (solved_says (take n k) v x q (length-take-le n k inside) (counted_ties b k o)
      (rw (take_at a' b n w.adds_long) at m))

  -- A refusal of the solver is refusal 6, and no complete transversal exists.
  pub refused_says : (y : Refusal) → r ≡ Err y → TableSays n t (refusal y)
  refused_says y q = go p
    where
      go : Solves n t a s z r a' s' z' → TableSays n t (refusal y)
      go (refused k low e ea es ez) =
          let f = only_six h l k low in
          no_transversal f.1 (same_refusal y k [] (sym (ap says q) ∙ e) ∙ ap (λ (i : ℕ). refuses i []) f.0)
      go (answered w c e la st lz f) = not_both w (number_of y) (values_of y) (sym e ∙ ap says q)

-- ---- the reader
-- the table that a sheet says stands at the front of the reader's table
pub record Taken (s : List ℕ) (n : ℕ) (b : List ℤ) : Type 0 where
  pub labelled : Labelled
  pub long : TooLong s → ⊥
  pub is_sheet : IsSheet labelled s
  pub size : n ≡ length labelled.row_labels
  pub front : take (n * n) b ≡ labelled.entries
  pub sound : Sound n (take (n * n) b) []
  pub inside : n * n ≤ length b
  pub small : n * n ≤ row_limit * row_limit

module _ {s : List ℕ} {m m' : reading.Lent} {r : Result ℕ Refusal} (w : reading.Wanted m) (p : reading.ReadPromise s m m' (says r)) where
  -- a sheet that the reader refuses, by 9 or by 10 since the lengths are the wanted ones
  pub sheet_refused : (y : Refusal) → r ≡ Err y → SheetSays s (refusal y)
  sheet_refused y q = go p
    where
      says_this : (k : ℕ) (vs : List ℕ) → says r ≡ refuses k vs → ◌≡◌ {A = Said Figures} (refusal y) (refuses k vs)
      says_this k vs e = same_refusal y k vs (sym (ap says q) ∙ e)

      lower : (k : ℕ) → First (reading.reader_tests s m) k → says r ≡ refuses k [] → SheetSays s (refusal y)
      lower k (inl l) e = absurd (lengths_right w l.0)
      lower k (inr (v, inl l)) e = too_long l.0 (says_this k [] e ∙ ap (λ (i : ℕ). refuses i []) l.1)
      lower k (inr (v, inr l)) e = absurd l.1

      go : reading.ReadPromise s m m' (says r) → SheetSays s (refusal y)
      go (reading.refused k l e f) = lower k l e
      go (reading.wrong_line k c g e f) = wrong_line k c.1.0 g (says_this 10 (k ∷ []) e)
      go (reading.read t c g e f) =
          not_both (length t.row_labels) (number_of y) (values_of y) (sym e ∙ ap says q)

  pub sheet_taken : (n : ℕ) → r ≡ Ok n → Taken s n m'.table
  sheet_taken n q = go p
    where
      go : reading.ReadPromise s m m' (says r) → Taken s n m'.table
      go (reading.refused k l e f) = not_both n k [] (sym (ap says q) ∙ e)
      go (reading.wrong_line k v g e f) = not_both n 10 (k ∷ []) (sym (ap says q) ∙ e)
      go (reading.read t v g e f) =
          let c : n ≡ length t.row_labels = given_once n (length t.row_labels) (sym (ap says q) ∙ e) in
          let st = g.stands in
          let len : length t.entries ≡ n * n = st.square ∙ ap (λ i. i * i) (sym c) in
          let x : m'.table ≡ over t.entries m.table = ap (λ i. i.table) f in
          let behind = drop (length t.entries) m.table in
          let fr : take (n * n) m'.table ≡ t.entries = ap (take (n * n)) x ∙ take_at t.entries behind (n * n) len in
          record {
            labelled = t;
            long = v.1.0;
            is_sheet = g;
            size = c;
            front = fr;
            sound = rw (fr, c) (stands_sound t st);
            inside = omega (arith, ap length x, length-append t.entries behind);
            small = mul-le-mul {n₁ = n} {m₁ = n} {n₂ = row_limit} {m₂ = row_limit} (omega (arith, st.few)) (omega (arith, st.few));
          }

-- what the answer of the table says, the answer of the sheet says
pub sheet_table : {s : List ℕ} {n : ℕ} {b : List ℤ} {room room' : List ℕ} {r : ℕ} → Taken s n b → Prints (TableSays n (take (n * n) b)) room room' r
    → Prints (SheetSays s) room room' r
sheet_table {n = n} k p =
    record {
      said = p.said;
      holds =
          of_table k.labelled k.long k.is_sheet
          (subst (λ i. TableSays i k.labelled.entries p.said) k.size (subst (λ i. TableSays n i p.said) k.front p.holds));
      puts = p.puts;
    }
