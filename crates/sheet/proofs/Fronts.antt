-- Lines can stand exactly when the reading lets them stand one after the other. Assumes nothing.
use mathlib.Core.Path.{◌≡◌, refl, sym, ap, subst, subst⁻¹, ◌∙◌}
use mathlib.Core.Logic.{◌⊎◌, inl, inr}
use mathlib.Core.List.{List, [], ◌∷◌, ◌++◌, append_assoc, append-nil, List-discrete}
use Prim.Native.Nat.{ℕ, zero, suc, ◌+◌, ◌-◌, ◌<◌, ◌≤◌}
use native.Mathlib.Omega.{arith}
use native.Mathlib.Decide.{ℕ_discrete}
use lib.ListN.{length, get_or, length-append}
use Rattle.theory.specs.Limits.{row_limit}
use Rattle.theory.proofs.Pigeonhole.{exists, crowded}
use Rattle.sheet.specs.Text.{text, rows_head, cols_head, orders_head, Digit}
use Rattle.sheet.specs.Labels.{LetterOrDigit, digit, Form, New, Labels}
use Rattle.sheet.specs.Sheet.{present_count, sheet_lines}
use Rattle.sheet.specs.Reading.{of_orders, State, start, heading, table_of}
use Rattle.sheet.specs.FirstWrong.{CanStand}
use Rattle.sheet.proofs.Bytes.{each_weak}
use Rattle.sheet.proofs.Numbers.{text_digits, text_some, text_once, text_within}
use Rattle.sheet.proofs.Slots.{labels_none, labels_more, length_more}
use Rattle.sheet.proofs.Runs.{Run, none, then, run_append, run_split}
use Rattle.sheet.proofs.Matching.{rows_state, cols_state, orders_state, Stage, at_start, in_rows, in_cols, in_orders, run_stage, rendered}
use Rattle.sheet.proofs.Matching.{run_rows, run_cols, run_sheet}

-- ---- lines that can stand are let stand: a sheet's lines are, so those that begin it are
pub can_run : (ls : List (List ℕ)) → CanStand ls → (st : State) × Run start ls st
can_run ls c =
    let t = c.table in
    let m = c.count - present_count t.entries in
    let e : present_count t.entries + m ≡ c.count = omega (arith, c.enough) in
    let r = run_sheet m t c.stands (omega (arith, c.few)) in
    let end = orders_state m t.row_labels t.col_labels r.said in
    let b = run_split ls c.others (subst (λ x. Run start x end) (ap (λ k. sheet_lines k t) e ∙ c.begins) r.run) in
    (b.middle, b.front)

-- ---- and the other way: after lines that are let stand others can come, up to the orders. For that there is always a new label: of the
-- numbers from 0 to the number of labels, as texts, not all are labels already.
data InList (ls : List (List ℕ)) (l : List ℕ) : Type 0 where
  there : (k : ℕ) → k < length ls → get_or ls k [] ≡ l → InList ls l
  missing : New ls l → InList ls l

look : (ls : List (List ℕ)) (l : List ℕ) → InList ls l
look ls l =
    elim (exists (λ k. get_or ls k [] ≡ l) (λ k. List-discrete ℕ_discrete (get_or ls k []) l) (length ls)) [
      | inl w ↦ there w.0 w.1 w.2
      | inr n ↦ missing n
    ]

new_dec : {ls : List (List ℕ)} {l : List ℕ} → InList ls l → Dec (New ls l)
new_dec (there k h e) = no (λ n. n k h e)
new_dec (missing n) = yes n

position : {ls : List (List ℕ)} {l : List ℕ} → InList ls l → ℕ
position (there k h e) = k
position (missing n) = 0

position_label : {ls : List (List ℕ)} {l : List ℕ} (p : InList ls l) → (New ls l → ⊥) → (position p < length ls) × (get_or ls (position p) [] ≡ l)
unfolding position
position_label (there k h e) o = (h, e)
position_label (missing n) o = absurd (o n)

new_label : (ls : List (List ℕ)) → (i : ℕ) × (i < suc (length ls)) × New ls (text i)
new_label ls = go (exists (λ i. New ls (text i)) (λ i. new_dec (look ls (text i))) (suc (length ls)))
  where
    go : ((i : ℕ) × (i < suc (length ls)) × New ls (text i)) ⊎ ((i : ℕ) → i < suc (length ls) → New ls (text i) → ⊥)
        → (i : ℕ) × (i < suc (length ls)) × New ls (text i)
    go (inl w) = w
    go (inr old) =
        let f : ℕ → ℕ = λ i. position (look ls (text i)) in
        let g : (i : ℕ) → i < suc (length ls) → (f i < length ls) × (get_or ls (f i) [] ≡ text i) = λ i h. position_label (look ls (text i)) (old i h) in
        absurd (crowded (length ls) f (λ i k h q e. text_once i k (sym (g i h).1 ∙ ap (λ p. get_or ls p []) e ∙ (g k q).1)) (λ i h. (g i h).0))

-- a number that is no more than the limit of rows has the form of a label
text_form : (i : ℕ) → i ≤ row_limit → Form (text i)
text_form i h =
    record {
      some = text_some i;
      few = text_within 7 i (omega arith);
      letters = each_weak Digit LetterOrDigit (text i) (λ b d. digit d.0 d.1) (text_digits i);
    }

-- m labels more
pub record MoreLabels (ls : List (List ℕ)) (m : ℕ) : Type 0 where
  pub others : List (List ℕ)
  pub many : m ≡ length others
  pub labels : Labels (ls ++ others)

more_labels : (m : ℕ) (ls : List (List ℕ)) → Labels ls → length ls + m ≤ row_limit → MoreLabels ls m
more_labels zero ls p h = record { others = []; many = refl; labels = subst⁻¹ (λ x. Labels x) (append-nil ls) p }
more_labels (suc m) ls p h =
    let f = new_label ls in
    let l = text f.0 in
    let i = f.1 in
    let r = more_labels m (ls ++ (l ∷ [])) (labels_more ls l p (text_form f.0 (omega arith)) f.2) (omega (arith, length_more ls l)) in
    record { others = l ∷ r.others; many = ap suc r.many; labels = subst (λ x. Labels x) (append_assoc ls (l ∷ []) r.others) r.labels }

-- from a section on to the orders, with new labels and `orders 0`
pub record Onward (st : State) : Type 0 where
  pub others : List (List ℕ)
  pub end : State
  pub run : Run st others end
  pub last : end.section ≡ of_orders

from_cols : (m : ℕ) (rs cs : List (List ℕ)) → Labels cs → length cs + m ≡ length rs → length rs ≤ row_limit → Onward (cols_state m rs cs)
from_cols m rs cs p e h =
    let r = more_labels m cs p (omega arith) in
    record {
      others = r.others ++ ((orders_head ++ text 0) ∷ []);
      end = orders_state 0 rs (cs ++ r.others) [];
      run =
          run_append (subst⁻¹ (λ x. Run (cols_state x rs cs) r.others (cols_state 0 rs (cs ++ r.others))) r.many (run_cols rs cs r.others r.labels))
          (then (orders_head ++ text 0) (heading 0 refl (omega arith, omega arith, refl) refl) none);
      last = refl;
    }

from_rows : (m : ℕ) (rs : List (List ℕ)) → Labels rs → length rs + m ≤ row_limit → Onward (rows_state m rs)
from_rows m rs p h =
    let r = more_labels m rs p h in
    let rs' = rs ++ r.others in
    let n = length rs' in
    let c = from_cols n rs' [] labels_none (omega arith) (omega (arith, length-append rs r.others, r.many)) in
    record {
      others = r.others ++ ((cols_head ++ text n) ∷ c.others);
      end = c.end;
      run =
          run_append (subst⁻¹ (λ x. Run (rows_state x rs) r.others (rows_state 0 rs')) r.many (run_rows rs r.others r.labels))
          (then {st' = cols_state n rs' []} (cols_head ++ text n) (heading n refl (refl, refl) refl) c.run);
      last = c.last;
    }

onward : {st : State} {ls : List (List ℕ)} → Stage st ls → Onward st
onward at_start =
    let r = from_rows 1 [] labels_none (omega arith) in
    record {
      others = (rows_head ++ text 1) ∷ r.others;
      end = r.end;
      run = then {st = start} {st' = rows_state 1 []} (rows_head ++ text 1) (heading 1 refl (omega arith, omega arith, refl) refl) r.run;
      last = r.last;
    }
onward (in_rows c m rs e a b p q) = from_rows m rs p (omega arith)
onward (in_cols m rs cs e a b p r q) = from_cols m rs cs r e b
onward (in_orders m rs cs e w k x y q) = record { others = []; end = orders_state m rs cs e; run = none; last = refl }

-- so lines that are let stand can stand: with the others they are the lines of a sheet
pub run_can : {st : State} (ls : List (List ℕ)) → Run start ls st → CanStand ls
run_can ls r =
    let o = onward (run_stage [] at_start r) in
    let w = rendered (run_stage [] at_start (run_append r o.run)) o.last in
    record {
      table = table_of o.end;
      stands = w.stands;
      count = present_count (table_of o.end).entries + o.end.left;
      enough = omega arith;
      few = w.few;
      others = o.others;
      begins = sym w.is;
    }
