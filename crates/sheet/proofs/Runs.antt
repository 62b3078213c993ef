-- The reading of a sheet as a run of lines that stand one after the other, and the place where it stops. Assumes nothing.
use mathlib.Core.Path.{◌≡◌, refl, sym, ap, subst, subst⁻¹, ◌∙◌}
use mathlib.Core.List.{List, [], ◌∷◌, ◌++◌, append_assoc}
use Prim.Native.Nat.{ℕ, suc, ◌+◌}
use native.Mathlib.Omega.{arith}
use lib.ListN.{length}
use Rattle.sheet.specs.Text.{feed, ended}
use Rattle.sheet.specs.Sheet.{ended_lines}
use Rattle.sheet.specs.Reading.{Ended, Section, opening, of_rows, of_cols, of_orders, State, Heading, After, heading, row_label}
use Rattle.sheet.specs.Reading.{col_label, order_line, Final, table_of, Outcome, good, wrong, Reads, done, short, unfit, next}
use Rattle.sheet.proofs.Lines.{Unbroken, ended_once, unbroken_unended, rows_unbroken, cols_unbroken, orders_unbroken}
use Rattle.sheet.proofs.Lines.{label_unbroken, order_unbroken}
use Rattle.sheet.proofs.Once.{after_once}

-- the lines ls stand one after the other, after those of the first state, and the second is what is said then
pub data Run : State → List (List ℕ) → State → Type 0 where
  none : {st : State} → Run st [] st
  then : {st st' st'' : State} {ls : List (List ℕ)} (l : List ℕ) → After st l st' → Run st' ls st'' → Run st (l ∷ ls) st''

pub run_append : {a b c : State} {ls ks : List (List ℕ)} → Run a ls b → Run b ks c → Run a (ls ++ ks) c
run_append none q = q
run_append (then l x p) q = then l x (run_append p q)

-- a run of two parts goes by a state between them
pub record Between (a : State) (ls ks : List (List ℕ)) (c : State) : Type 0 where
  pub middle : State
  pub front : Run a ls middle
  pub back : Run middle ks c

pub run_split : {a c : State} (ls ks : List (List ℕ)) → Run a (ls ++ ks) c → Between a ls ks c
run_split {a} [] ks p = record { middle = a; front = none; back = p }
run_split (l ∷ ls) ks (then _ x p) =
    let r = run_split ls ks p in record { middle = r.middle; front = then l x r.front; back = r.back }

pub run_once : {a b c : State} (ls : List (List ℕ)) → Run a ls b → Run a ls c → b ≡ c
run_once [] none none = refl
run_once {a} {c = c} (l ∷ ls) (then {st' = d} _ x p) (then {st' = e} _ y q) =
    run_once ls p (subst (λ z. Run z ls c) (after_once a l e d y x) q)

pub run_one : {a b : State} {l : List ℕ} → Run a (l ∷ []) b → After a l b
run_one (then _ x none) = x

-- a line that stands has no line feed inside
heading_unbroken : (s : Section) (n c : ℕ) (l : List ℕ) → Heading s n c l → Unbroken l
heading_unbroken opening n c l h = subst⁻¹ (λ x. Unbroken x) h.2 (rows_unbroken c)
heading_unbroken of_rows n c l h = subst⁻¹ (λ x. Unbroken x) h.1 (cols_unbroken c)
heading_unbroken of_cols n c l h = subst⁻¹ (λ x. Unbroken x) h.2 (orders_unbroken c)
heading_unbroken of_orders n c l h = absurd h

pub after_unbroken : {st : State} {l : List ℕ} {st' : State} → After st l st' → Unbroken l
after_unbroken {st} {l} (heading c z h f) = heading_unbroken st.section (length st.row_labels) c l h
after_unbroken {l = l} (row_label m s z g n f) = label_unbroken l g
after_unbroken {l = l} (col_label m s z g n f) = label_unbroken l g
after_unbroken {l = l} (order_line m i j v s z p q o t u f) = subst⁻¹ (λ x. Unbroken x) u (order_unbroken i j v)

-- a line, its line feed and the rest
pub first : (l x : List ℕ) → Unbroken l → Ended (ended l ++ x) l x
first l x u = record { parts = append_assoc l (feed ∷ []) x; whole = u }

-- lines that stand are read one after the other
pub run_reads : {a b : State} {ls : List (List ℕ)} (k : ℕ) (x : List ℕ) (o : Outcome) → Run a ls b → Reads b (k + length ls) x o
    → Reads a k (ended_lines ls ++ x) o
unfolding ended_lines
run_reads {a} k x o none r = let e : k + 0 ≡ k = omega arith in subst (λ i. Reads a i x o) e r
run_reads {a} {b} k x o (then {st' = c} {ls = ls} l y p) r =
    let e : k + suc (length ls) ≡ suc k + length ls = omega arith in
    subst⁻¹ (λ z. Reads a k z o) (append_assoc (ended l) (ended_lines ls) x)
    (next l (ended_lines ls ++ x) c (first l (ended_lines ls ++ x) (after_unbroken y)) y
    (run_reads (suc k) x o p (subst (λ i. Reads b i x o) e r)))

-- where a reading stops, with k the number of the next line: where the sheet may end, or where no line that stands comes next
pub data Halt (st : State) (k : ℕ) (s : List ℕ) (o : Outcome) : Type 0 where
  at_end : s ≡ [] → Final st → o ≡ good (table_of st) → Halt st k s o
  at_fault : ((l x : List ℕ) (st' : State) → Ended s l x → After st l st' → ⊥) → o ≡ wrong k → Halt st k s o

pub record Course (a : State) (k : ℕ) (s : List ℕ) (o : Outcome) : Type 0 where
  pub lines : List (List ℕ)
  pub rest : List ℕ
  pub end : State
  pub run : Run a lines end
  pub parts : s ≡ ended_lines lines ++ rest
  pub stop : Halt end (k + length lines) rest o

-- a reading that stops at once
stopped : {a : State} {k : ℕ} {s : List ℕ} {o : Outcome} → Halt a k s o → Course a k s o
unfolding ended_lines
stopped {a} {k} {s} {o} h =
    let e : k ≡ k + 0 = omega arith in
    record { lines = []; rest = s; end = a; run = none; parts = refl; stop = subst (λ i. Halt a i s o) e h }

-- every reading has such a course
pub course : {a : State} {k : ℕ} {s : List ℕ} {o : Outcome} → Reads a k s o → Course a k s o
unfolding ended_lines
course (done z f e) = stopped (at_end z f e)
course {s = s} (short u n e) = stopped (at_fault (λ l x st' d a. unbroken_unended s l x u d) e)
course {a} {s = s} (unfit l x d n e) =
    stopped (at_fault (λ l' x' st' d' y. n st' (subst⁻¹ (λ z. After a z st') (ended_once s l x l' x' d d').0 y)) e)
course {k = k} {s} {o} (next l x st' d y r) =
    let c = course r in
    let e : suc k + length c.lines ≡ k + suc (length c.lines) = omega arith in
    record {
      lines = l ∷ c.lines;
      rest = c.rest;
      end = c.end;
      run = then l y c.run;
      parts =
          d.parts
          ∙ sym (append_assoc l (feed ∷ []) x)
          ∙ ap (λ z. ended l ++ z) c.parts ∙ sym (append_assoc (ended l) (ended_lines c.lines) c.rest);
      stop = subst (λ i. Halt c.end i c.rest o) e c.stop;
    }
