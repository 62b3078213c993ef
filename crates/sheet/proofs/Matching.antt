-- Sheets and labelled tables match one to one: a labelled table's sheet reads as that table, and a sheet that reads as a table is that
-- table's sheet, byte for byte. Assumes nothing.
use mathlib.Core.Path.{◌≡◌, refl, sym, ap, subst, subst⁻¹, ◌∙◌}
use mathlib.Core.Bool.{Bool, true, false}
use mathlib.Core.List.{List, [], ◌∷◌, ◌++◌, append_assoc, append-nil}
use Prim.Native.Nat.{ℕ, zero, suc, ◌+◌, ◌-◌, ◌*◌, ◌/◌, ◌%◌, ◌<◌, ◌≤◌}
use native.Mathlib.Omega.{arith}
use lib.IntN.{ℤ}
use lib.ListN.{length, replicate, length-append, length-replicate}
use Rattle.theory.specs.Limits.{row_limit, order_limit}
use Rattle.theory.specs.Table.{absent, Order, Entries}
use Rattle.sheet.specs.Text.{text, rows_head, cols_head, orders_head}
use Rattle.sheet.specs.Labels.{Labels}
use Rattle.sheet.specs.Sheet.{Labelled, Stands, ended_lines, is_absent, present_count, order_text, order_lines, headed, sheet_lines, sheet_of, IsSheet}
use Rattle.sheet.specs.Reading.{of_rows, of_cols, of_orders, State, start, After, heading, row_label, col_label, order_line, Final}
use Rattle.sheet.specs.Reading.{good, table_of, Reads, done}
use Rattle.sheet.proofs.Slots.{labels_none, labels_more, labels_new, labels_form, length_more}
use Rattle.sheet.proofs.Lines.{rank}
use Rattle.sheet.proofs.Orders.{absent_is, absent_not, order_present, lines_append, lines_absent, lines_one, count_append}
use Rattle.orders.proofs.Places.{cell, place_row, place_col, row_inside, col_inside, row_col}
use Rattle.sheet.proofs.Orders.{count_absent, count_one, count_le}
use Rattle.sheet.proofs.Orders.{entries_none, entries_append, entries_right, entries_absent, entries_one}
use Rattle.sheet.proofs.Once.{good_once}
use Rattle.sheet.proofs.Runs.{Run, none, then, run_append, run_reads, Halt, at_end, at_fault, Course, course}

-- the state in each section
abbrev pub rows_state : ℕ → List (List ℕ) → State
rows_state m rs = record { section = of_rows; left = m; row_labels = rs; col_labels = []; entries = [] }

abbrev pub cols_state : ℕ → List (List ℕ) → List (List ℕ) → State
cols_state m rs cs = record { section = of_cols; left = m; row_labels = rs; col_labels = cs; entries = [] }

abbrev pub orders_state : ℕ → List (List ℕ) → List (List ℕ) → List ℤ → State
orders_state m rs cs e = record { section = of_orders; left = m; row_labels = rs; col_labels = cs; entries = e }

-- labels of rows and of columns within the limits, as many of the one as of the other
pub record Framed (rs cs : List (List ℕ)) : Type 0 where
  pub some : 1 ≤ length rs
  pub few : length rs ≤ row_limit
  pub same : length cs ≡ length rs
  pub rows_stand : Labels rs
  pub cols_stand : Labels cs

-- The lines so far are the front of a sheet: in each section the heading's count is that of the lines that stand and of those still due.
pub data Stage : State → List (List ℕ) → Type 0 where
  at_start : Stage start []
  in_rows : {ls : List (List ℕ)} (c m : ℕ) (rs : List (List ℕ)) → length rs + m ≡ c → 1 ≤ c → c ≤ row_limit → Labels rs → ls ≡ headed rows_head c rs
      → Stage (rows_state m rs) ls
  in_cols : {ls : List (List ℕ)} (m : ℕ) (rs cs : List (List ℕ)) → length cs + m ≡ length rs → 1 ≤ length rs → length rs ≤ row_limit → Labels rs → Labels cs
      → ls ≡ headed rows_head (length rs) rs ++ headed cols_head (length rs) cs → Stage (cols_state m rs cs) ls
  in_orders : {ls : List (List ℕ)} (m : ℕ) (rs cs : List (List ℕ)) (e : List ℤ) → Framed rs cs → present_count e + m ≤ length rs * length rs
      → length e ≤ length rs * length rs → Entries order_limit e
      → ls ≡ sheet_lines (present_count e + m) (record { row_labels = rs; col_labels = cs; entries = e }) → Stage (orders_state m rs cs e) ls

-- the entries of one order more
more : (n : ℕ) (e : List ℤ) (i j : ℕ) (v : ℤ) → List ℤ
more n e i j v = e ++ (replicate (i * n + j - length e) absent ++ (v ∷ []))

module _ (n : ℕ) (e : List ℤ) (i j : ℕ) (v : ℤ) (row : i < n) (col : j < n) (o : Order order_limit v) (rising : length e ≤ i * n + j) where
  more_length : length (more n e i j v) ≡ i * n + j + 1
  unfolding more
  more_length =
      length-append e (replicate (i * n + j - length e) absent ++ (v ∷ []))
      ∙ omega (arith, length-append (replicate (i * n + j - length e) absent) (v ∷ []), length-replicate {A = ℤ} (i * n + j - length e) absent)

  more_count : present_count (more n e i j v) ≡ present_count e + 1
  unfolding more
  more_count =
      count_append e (replicate (i * n + j - length e) absent ++ (v ∷ []))
      ∙ omega
      (arith, count_append (replicate (i * n + j - length e) absent) (v ∷ []), count_absent (i * n + j - length e), count_one v (order_present v o))

  more_lines : order_lines n 0 (more n e i j v) ≡ order_lines n 0 e ++ (order_text i j v ∷ [])
  unfolding more
  more_lines =
      let d = i * n + j - length e in
      let q : 0 + length e + length (replicate d absent) ≡ i * n + j = omega (arith, length-replicate {A = ℤ} d absent) in
      lines_append n 0 e (replicate d absent ++ (v ∷ []))
      ∙ ap (λ x. order_lines n 0 e ++ x)
      (lines_append n (0 + length e) (replicate d absent) (v ∷ [])
      ∙ ap (λ x. x ++ order_lines n (0 + length e + length (replicate d absent)) (v ∷ [])) (lines_absent n (0 + length e) d)
      ∙ ap (λ x. order_lines n x (v ∷ [])) q
      ∙ lines_one n (i * n + j) v (order_present v o)
      ∙ ap (λ x. order_text x ((i * n + j) % n) v ∷ []) (place_row n i j col)
      ∙ ap (λ x. order_text i x v ∷ []) (place_col n i j col))

  more_stand : Entries order_limit e → Entries order_limit (more n e i j v)
  unfolding more
  more_stand p =
      entries_append e (replicate (i * n + j - length e) absent ++ (v ∷ [])) p
      (entries_append (replicate (i * n + j - length e) absent) (v ∷ []) (entries_absent (i * n + j - length e)) (entries_one v o))

-- one line more is the front of a sheet again
step : {st : State} {ls : List (List ℕ)} {l : List ℕ} {st' : State} → Stage st ls → After st l st' → Stage st' (ls ++ (l ∷ []))
unfolding order_lines present_count more
step {l = l} at_start (heading c z h f) =
    subst⁻¹ (λ y. Stage y (l ∷ [])) f (in_rows c c [] (omega arith) h.0 h.1 labels_none (ap (λ y. y ∷ []) h.2))
step at_start (row_label m s z g n f) = absurd (omega (arith, ap rank s))
step at_start (col_label m s z g n f) = absurd (omega (arith, ap rank s))
step at_start (order_line m i j v s z p q o t u f) = absurd (omega (arith, ap rank s))
step {ls = ls} {l} (in_rows c m rs e a b p q) (heading d z h f) =
    let k : c ≡ length rs = omega arith in
    let x : d ≡ length rs = omega arith in
    subst⁻¹ (λ y. Stage y (ls ++ (l ∷ []))) f
    (in_cols d rs [] (omega arith) (omega arith) (omega arith) p labels_none
    (ap (λ y. y ++ (l ∷ [])) (q ∙ ap (λ y. headed rows_head y rs) k)
    ∙ ap (λ y. headed rows_head (length rs) rs ++ (y ∷ [])) (h.1 ∙ ap (λ y. cols_head ++ text y) x)))
step {ls = ls} {l} (in_rows c m rs e a b p q) (row_label m' s z g n f) =
    subst⁻¹ (λ y. Stage y (ls ++ (l ∷ []))) f
    (in_rows c m' (rs ++ (l ∷ [])) (omega (arith, length_more rs l)) a b (labels_more rs l p g n) (ap (λ y. y ++ (l ∷ [])) q))
step (in_rows c m rs e a b p q) (col_label m' s z g n f) = absurd (omega (arith, ap rank s))
step (in_rows c m rs e a b p q) (order_line m' i j v s z g r o t u f) = absurd (omega (arith, ap rank s))
step {ls = ls} {l} (in_cols m rs cs e a b p r q) (heading d z h f) =
    let n = length rs in
    let k : n ≡ length cs = omega arith in
    let x : d ≡ present_count [] + d = omega arith in
    subst⁻¹ (λ y. Stage y (ls ++ (l ∷ []))) f
    (in_orders d rs cs [] (record { some = a; few = b; same = sym k; rows_stand = p; cols_stand = r }) (omega (arith, h.1)) (omega arith) entries_none
    (ap (λ y. y ++ (l ∷ [])) (q ∙ ap (λ y. headed rows_head n rs ++ headed cols_head y cs) k)
    ∙ append_assoc (headed rows_head n rs) (headed cols_head (length cs) cs) (l ∷ [])
    ∙ ap (λ y. headed rows_head n rs ++ (headed cols_head (length cs) cs ++ (y ∷ []))) (h.2 ∙ ap (λ y. orders_head ++ text y) x)))
step (in_cols m rs cs e a b p r q) (row_label m' s z g n f) = absurd (omega (arith, ap rank s))
step {ls = ls} {l} (in_cols m rs cs e a b p r q) (col_label m' s z g n f) =
    subst⁻¹ (λ y. Stage y (ls ++ (l ∷ []))) f
    (in_cols m' rs (cs ++ (l ∷ [])) (omega (arith, length_more cs l)) a b p (labels_more cs l r g n)
    (ap (λ y. y ++ (l ∷ [])) q ∙ append_assoc (headed rows_head (length rs) rs) (headed cols_head (length rs) cs) (l ∷ [])))
step (in_cols m rs cs e a b p r q) (order_line m' i j v s z g w o t u f) = absurd (omega (arith, ap rank s))
step (in_orders m rs cs e w k x y q) (heading d z h f) = absurd h
step (in_orders m rs cs e w k x y q) (row_label m' s z g n f) = absurd (omega (arith, ap rank s))
step (in_orders m rs cs e w k x y q) (col_label m' s z g n f) = absurd (omega (arith, ap rank s))
step {ls = ls} {l} (in_orders m rs cs e w k x y q) (order_line m' i j v s z g r o t u f) =
    let n = length rs in
    let a = headed rows_head n rs in
    let b = headed cols_head (length cs) cs in
    let c = headed orders_head (present_count e + m) (order_lines n 0 e) in
    let e' = more n e i j v in
    let d : present_count e + m ≡ present_count e' + m' = omega (arith, more_count n e i j v g r o t) in
    subst⁻¹ (λ p. Stage p (ls ++ (l ∷ []))) f
    (in_orders m' rs cs e' w (omega arith) (omega (arith, more_length n e i j v g r o t, cell n i j g r)) (more_stand n e i j v g r o t y)
    (ap (λ p. p ++ (l ∷ [])) q
    ∙ append_assoc a (b ++ c) (l ∷ [])
    ∙ ap (λ p. a ++ p) (append_assoc b c (l ∷ []))
    ∙ ap (λ p. a ++ (b ++ headed orders_head (present_count e + m) (order_lines n 0 e ++ (p ∷ [])))) u
    ∙ ap (λ p. a ++ (b ++ headed orders_head (present_count e + m) p)) (sym (more_lines n e i j v g r o t))
    ∙ ap (λ p. a ++ (b ++ headed orders_head p (order_lines n 0 e'))) d))

pub run_stage : {a b : State} {ls : List (List ℕ)} (ks : List (List ℕ)) → Stage a ks → Run a ls b → Stage b (ks ++ ls)
run_stage {a} ks q none = subst⁻¹ (λ x. Stage a x) (append-nil ks) q
run_stage {b = b} ks q (then {ls = ls} l x r) =
    subst (λ y. Stage b y) (append_assoc ks (l ∷ []) ls) (run_stage (ks ++ (l ∷ [])) (step q x) r)

-- In the section of the orders the lines are those of a table within the limits, with the orders still due added to its count.
pub record Rendered (st : State) (ls : List (List ℕ)) : Type 0 where
  pub stands : Stands (table_of st)
  pub few : present_count (table_of st).entries + st.left ≤ length st.row_labels * length st.row_labels
  pub is : ls ≡ sheet_lines (present_count (table_of st).entries + st.left) (table_of st)

pub rendered : {st : State} {ls : List (List ℕ)} → Stage st ls → st.section ≡ of_orders → Rendered st ls
rendered at_start s = absurd (omega (arith, ap rank s))
rendered (in_rows c m rs e a b p q) s = absurd (omega (arith, ap rank s))
rendered (in_cols m rs cs e a b p r q) s = absurd (omega (arith, ap rank s))
rendered (in_orders m rs cs e w k x y q) s =
    let n = length rs in
    let gap = replicate (n * n - length e) absent in
    let a = headed rows_head n rs in
    let b = headed cols_head (length cs) cs in
    let g : present_count e ≡ present_count (e ++ gap) = omega (arith, count_append e gap, count_absent (n * n - length e)) in
    let h : order_lines n 0 e ≡ order_lines n 0 (e ++ gap) =
    sym
    (lines_append n 0 e gap
    ∙ ap (λ z. order_lines n 0 e ++ z) (lines_absent n (0 + length e) (n * n - length e)) ∙ append-nil (order_lines n 0 e)) in
    record {
      stands =
          record {
            some = w.some;
            few = w.few;
            same = w.same;
            square = length-append e gap ∙ omega (arith, length-replicate {A = ℤ} (n * n - length e) absent);
            rows_stand = w.rows_stand;
            cols_stand = w.cols_stand;
            entries_stand = entries_append e gap y (entries_absent (n * n - length e));
          };
      few = omega arith;
      is =
          q
          ∙ ap (λ z. a ++ (b ++ headed orders_head (z + m) (order_lines n 0 e))) g
          ∙ ap (λ z. a ++ (b ++ headed orders_head (present_count (e ++ gap) + m) z)) h;
    }

-- at an end all bytes are a sheet
pub ends_written : {st : State} {ls : List (List ℕ)} → Stage st ls → Final st → IsSheet (table_of st) (ended_lines ls)
ends_written {st} q f =
    let r = rendered q f.last in
    let e : present_count (table_of st).entries + st.left ≡ present_count (table_of st).entries = omega (arith, f.none_left) in
    record { is = ap ended_lines (r.is ∙ ap (λ k. sheet_lines k (table_of st)) e); stands = r.stands }

-- a sheet that is read is what the writer writes for its table, byte for byte
pub read_is_written : (s : List ℕ) (t : Labelled) → Reads start 1 s (good t) → IsSheet t s
read_is_written s t r = go (course r).stop
  where
    c : Course start 1 s (good t)
    c = course r

    go : Halt c.end (1 + length c.lines) c.rest (good t) → IsSheet t s
    go (at_end z f e) =
        let h : table_of c.end ≡ t = cc in
        subst (λ x. IsSheet x s) h
        (subst⁻¹ (λ x. IsSheet (table_of c.end) x) (c.parts ∙ ap (λ x. ended_lines c.lines ++ x) z ∙ append-nil (ended_lines c.lines))
        (ends_written (run_stage [] at_start c.run) f))
    go (at_fault n e) = absurd (let z : ◌≡◌ {A = ℕ} 0 1 = cc in omega arith)

-- ---- Now from a table to the reading of its sheet.
-- labels still to be read, after those in a
pub run_rows : (a b : List (List ℕ)) → Labels (a ++ b) → Run (rows_state (length b) a) b (rows_state 0 (a ++ b))
run_rows a [] p = subst⁻¹ (λ y. Run (rows_state 0 a) [] (rows_state 0 y)) (append-nil a) none
run_rows a (l ∷ b) p =
    let e : (a ++ (l ∷ [])) ++ b ≡ a ++ l ∷ b = append_assoc a (l ∷ []) b in
    then {st' = rows_state (length b) (a ++ (l ∷ []))} l (row_label (length b) refl refl (labels_form a l b p) (labels_new a l b p) refl)
    (subst (λ y. Run (rows_state (length b) (a ++ (l ∷ []))) b (rows_state 0 y)) e (run_rows (a ++ (l ∷ [])) b (subst⁻¹ (λ y. Labels y) e p)))

pub run_cols : (rs a b : List (List ℕ)) → Labels (a ++ b) → Run (cols_state (length b) rs a) b (cols_state 0 rs (a ++ b))
run_cols rs a [] p = subst⁻¹ (λ y. Run (cols_state 0 rs a) [] (cols_state 0 rs y)) (append-nil a) none
run_cols rs a (l ∷ b) p =
    let e : (a ++ (l ∷ [])) ++ b ≡ a ++ l ∷ b = append_assoc a (l ∷ []) b in
    then {st' = cols_state (length b) rs (a ++ (l ∷ []))} l (col_label (length b) refl refl (labels_form a l b p) (labels_new a l b p) refl)
    (subst (λ y. Run (cols_state (length b) rs (a ++ (l ∷ []))) b (cols_state 0 rs y)) e (run_cols rs (a ++ (l ∷ [])) b (subst⁻¹ (λ y. Labels y) e p)))

-- the lines ls say all the entries, and m orders are still due; what is said ends with the last order
pub record RunsTo (a : State) (ls rs cs : List (List ℕ)) (all : List ℤ) (m : ℕ) : Type 0 where
  pub said : List ℤ
  pub gap : ℕ
  pub parts : all ≡ said ++ replicate gap absent
  pub run : Run a ls (orders_state m rs cs said)

-- d absent entries and one more
absent_more : (d : ℕ) (r : List ℤ) → replicate d absent ++ (absent ∷ r) ≡ replicate (suc d) absent ++ r
absent_more zero r = refl
absent_more (suc d) r = ap (λ x. absent ∷ x) (absent_more d r)

-- the order lines still to be read, after e and d absent places; by cases on the next entry
module _ (rs cs : List (List ℕ)) (m : ℕ) where
  abbrev Rest : List ℤ → ℕ → List ℤ → Type 0
  Rest e d r = RunsTo (orders_state (present_count r + m) rs cs e) (order_lines (length rs) (length e + d) r) rs cs (e ++ (replicate d absent ++ r)) m

  absent_next : (e : List ℤ) (d : ℕ) (v : ℤ) (r : List ℤ) → is_absent v ≡ true → Rest e (suc d) r → Rest e d (v ∷ r)
  unfolding order_lines present_count
  absent_next e d v r f q =
      let h : length e + suc d ≡ suc (length e + d) = omega arith in
      rw f
      (record {
        said = q.said;
        gap = q.gap;
        parts = ap (λ x. e ++ x) (ap (λ x. replicate d absent ++ (x ∷ r)) (absent_is v f) ∙ absent_more d r) ∙ q.parts;
        run = subst (λ x. Run (orders_state (present_count r + m) rs cs e) (order_lines (length rs) x r) (orders_state m rs cs q.said)) h q.run;
      })

  present_next : (e : List ℤ) (d : ℕ) (v : ℤ) (r : List ℤ) → is_absent v ≡ false → length e + d < length rs * length rs → Order order_limit v
      → Rest (more (length rs) e ((length e + d) / length rs) ((length e + d) % length rs) v) 0 r → Rest e d (v ∷ r)
  unfolding order_lines present_count more
  present_next e d v r f w o q =
      let n = length rs in
      let i = (length e + d) / n in
      let j = (length e + d) % n in
      let c : i * n + j ≡ length e + d = row_col n (length e + d) w in
      let g : i < n = row_inside n (length e + d) w in
      let k : j < n = col_inside n (length e + d) w in
      let gap = replicate (i * n + j - length e) absent in
      let z : d ≡ i * n + j - length e = omega arith in
      let h : length (e ++ (gap ++ (v ∷ []))) + 0 ≡ suc (length e + d) = omega (arith, more_length n e i j v g k o (omega arith)) in
      let y : suc (present_count r) + m ≡ suc (present_count r + m) = omega arith in
      let st = orders_state (present_count r + m) rs cs (e ++ (gap ++ (v ∷ []))) in
      rw f
      (record {
        said = q.said;
        gap = q.gap;
        parts =
            ap (λ x. e ++ (replicate x absent ++ (v ∷ r))) z
            ∙ sym (append_assoc e (gap ++ (v ∷ [])) r ∙ ap (λ x. e ++ x) (append_assoc gap (v ∷ []) r))
            ∙ q.parts;
        run =
            then {st = orders_state (suc (present_count r) + m) rs cs e} {st' = st} (order_text i j v)
            (order_line (present_count r + m) i j v refl y g k o (omega arith) refl refl)
            (subst (λ x. Run st (order_lines n x r) (orders_state m rs cs q.said)) h q.run);
      })

  orders_by : (e : List ℤ) (d : ℕ) (v : ℤ) (r : List ℤ) (t : Bool) → is_absent v ≡ t → length e + d + length (v ∷ r) ≡ length rs * length rs
      → Entries order_limit (v ∷ r) → ((e' : List ℤ) (d' : ℕ) → length e' + d' + length r ≡ length rs * length rs → Rest e' d' r) → Rest e d (v ∷ r)
  orders_by e d v r true f g s rec = absent_next e d v r f (rec e (suc d) (omega arith))
  orders_by e d v r false f g s rec =
      let n = length rs in
      let p = length e + d in
      let w : p < n * n = omega arith in
      let c = row_col n p w in
      let o : Order order_limit v = s 0 (omega arith) (absent_not v f) in
      present_next e d v r f w o
      (rec (more n e (p / n) (p % n) v) 0
      (omega (arith, more_length n e (p / n) (p % n) v (row_inside n p w) (col_inside n p w) o (omega arith))))

  run_orders : (r e : List ℤ) (d : ℕ) → length e + d + length r ≡ length rs * length rs → Entries order_limit r → Rest e d r
  unfolding order_lines present_count
  run_orders [] e d g s =
      let k : 0 + m ≡ m = omega arith in
      record {
        said = e;
        gap = d;
        parts = ap (λ x. e ++ x) (append-nil (replicate d absent));
        run = subst⁻¹ (λ x. Run (orders_state x rs cs e) [] (orders_state m rs cs e)) k none;
      }
  run_orders (v ∷ r) e d g s =
      orders_by e d v r (is_absent v) refl g s (λ e' d' h. run_orders r e' d' h (entries_right (v ∷ []) r s))

-- the lines of a table's sheet stand one after the other, with m added to the count of its orders
pub run_sheet : (m : ℕ) (t : Labelled) → Stands t → present_count t.entries + m ≤ length t.row_labels * length t.row_labels
    → RunsTo start (sheet_lines (present_count t.entries + m) t) t.row_labels t.col_labels t.entries m
run_sheet m t w k =
    let rs = t.row_labels in
    let cs = t.col_labels in
    let c = present_count t.entries + m in
    let q = run_orders rs cs m t.entries [] 0 (omega (arith, w.square)) w.entries_stand in
    record {
      said = q.said;
      gap = q.gap;
      parts = q.parts;
      run =
          then {st = start} {st' = rows_state (length rs) []} (rows_head ++ text (length rs)) (heading (length rs) refl (w.some, w.few, refl) refl)
          (run_append (run_rows [] rs w.rows_stand)
          (then {st = rows_state 0 rs} {st' = cols_state (length cs) rs []} (cols_head ++ text (length cs)) (heading (length cs) refl (w.same, refl) refl)
          (run_append (run_cols rs [] cs w.cols_stand)
          (then {st = cols_state 0 rs cs} {st' = orders_state c rs cs []} (orders_head ++ text c) (heading c refl (omega arith, k, refl) refl) q.run))));
    }

-- the sheet of a labelled table reads as that table
pub written_is_read : (t : Labelled) → Stands t → Reads start 1 (sheet_of t) (good t)
written_is_read t w =
    let n = length t.row_labels in
    let c = present_count t.entries in
    let q = run_sheet 0 t w (omega (arith, count_le t.entries, w.square)) in
    let st = orders_state 0 t.row_labels t.col_labels q.said in
    let e : c + 0 ≡ c = omega arith in
    let g : n * n - length q.said ≡ q.gap =
    omega (
      arith,
      w.square,
      ap length q.parts,
      length-append q.said (replicate q.gap absent),
      length-replicate {A = ℤ} q.gap absent,
    ) in
    let h : t ≡ table_of st =
    ap (λ x. record { row_labels = t.row_labels; col_labels = t.col_labels; entries = x })
    (q.parts ∙ ap (λ x. q.said ++ replicate x absent) (sym g)) in
    subst (λ x. Reads start 1 x (good t)) (append-nil (sheet_of t))
    (run_reads 1 [] (good t) (subst (λ x. Run start (sheet_lines x t) st) e q.run)
    (done refl (record { last = refl; none_left = refl }) (ap good h)))

-- one labelled table has one sheet, and one sheet at most one labelled table
pub sheet_once : (a b : Labelled) → Stands a → Stands b → sheet_of a ≡ sheet_of b → a ≡ b
sheet_once a b p q e =
    good_once (written_is_read a p) (subst⁻¹ (λ x. Reads start 1 x (good b)) e (written_is_read b q))

pub labelled_once : {s : List ℕ} {a b : Labelled} → IsSheet a s → IsSheet b s → a ≡ b
labelled_once {a = a} {b = b} p q = sheet_once a b p.stands q.stands (sym p.is ∙ q.is)
