-- The lines and the count of a table's orders, part by part. Assumes nothing.
use mathlib.Core.Path.{◌≡◌, refl, sym, ap, ◌∙◌}
use mathlib.Core.Bool.{Bool, true, false, cond}
use mathlib.Core.List.{List, [], ◌∷◌, ◌++◌, append_assoc, append-nil}
use Prim.Native.Nat.{ℕ, zero, suc, ◌+◌, ◌-◌, ◌/◌, ◌%◌, ◌<◌, ◌≤◌}
use native.Mathlib.Omega.{arith}
use borrow.Author.Tests.{ne_eqb, eqb-true}
use lib.IntN.{ℤ, pos, negsuc}
use lib.ListN.{length, get_or, replicate, length-append, length-replicate, get_or-append, get_or-replicate}
use lib.Seq.{get_or-append-add}
use Rattle.theory.specs.Limits.{order_limit}
use Rattle.theory.specs.Table.{absent, Present, Order, Entries}
use Rattle.theory.proofs.Signed.{signed}
use Rattle.sheet.specs.Text.{text, ended, rows_head, cols_head, orders_head}
use Rattle.sheet.specs.Sheet.{Labelled, is_absent, present_count, order_text, ended_lines, order_lines, headed, counted_lines, sheet_of}
use Rattle.orders.proofs.Entries.{clash}

-- label lines of two lists one after the other
pub ended_append : (a b : List (List ℕ)) → ended_lines (a ++ b) ≡ ended_lines a ++ ended_lines b
unfolding ended_lines
ended_append [] b = refl
ended_append (l ∷ a) b =
    ap (λ x. ended l ++ x) (ended_append a b) ∙ sym (append_assoc (ended l) (ended_lines a) (ended_lines b))

pub ended_one : (l : List ℕ) → ended_lines (l ∷ []) ≡ ended l
unfolding ended_lines
ended_one l = append-nil (ended l)

-- a sheet's bytes, section by section
headed_bytes : (h : List ℕ) (c : ℕ) (ls ks : List (List ℕ)) → ended_lines (headed h c ls ++ ks) ≡ (ended (h ++ text c) ++ ended_lines ls) ++ ended_lines ks
unfolding ended_lines
headed_bytes h c ls ks =
    ap (λ x. ended (h ++ text c) ++ x) (ended_append ls ks) ∙ sym (append_assoc (ended (h ++ text c)) (ended_lines ls) (ended_lines ks))

pub sheet_bytes : (t : Labelled)
    → sheet_of t
    ≡ counted_lines rows_head t.row_labels
    ++ (counted_lines cols_head t.col_labels
    ++ (ended (orders_head ++ text (present_count t.entries)) ++ ended_lines (order_lines (length t.row_labels) 0 t.entries)))
unfolding ended_lines
sheet_bytes t =
    let n = length t.row_labels in
    let k = length t.col_labels in
    let os = headed orders_head (present_count t.entries) (order_lines n 0 t.entries) in
    headed_bytes rows_head n t.row_labels (headed cols_head k t.col_labels ++ os)
    ∙ ap (λ x. counted_lines rows_head t.row_labels ++ x) (headed_bytes cols_head k t.col_labels os)

-- the test of an absent entry
pub absent_is : (v : ℤ) → is_absent v ≡ true → v ≡ absent
absent_is (pos n) e = clash {b = false} e refl
absent_is (negsuc n) e = ap negsuc (eqb-true n 32767 e)

pub absent_not : (v : ℤ) → is_absent v ≡ false → Present v
absent_not v e p = clash {b = is_absent v} (ap is_absent p) e

pub order_present : (v : ℤ) → Order order_limit v → is_absent v ≡ false
order_present (pos n) o = refl
order_present (negsuc n) o = ne_eqb n 32767 (λ e. omega (arith, signed, o.low))

-- the lines of entries in two parts
lines_by : (t : Bool) (l : List ℕ) (a b c : List (List ℕ)) → c ≡ a ++ b → cond t c (l ∷ c) ≡ cond t a (l ∷ a) ++ b
lines_by true l a b c e = e
lines_by false l a b c e = ap (λ x. l ∷ x) e

pub lines_append : (n p : ℕ) (a b : List ℤ) → order_lines n p (a ++ b) ≡ order_lines n p a ++ order_lines n (p + length a) b
unfolding order_lines
lines_append n p [] b = let e : p ≡ p + 0 = omega arith in ap (λ q. order_lines n q b) e
lines_append n p (v ∷ a) b =
    let e : suc p + length a ≡ p + length (v ∷ a) = omega arith in
    lines_by (is_absent v) (order_text (p / n) (p % n) v) (order_lines n (suc p) a) (order_lines n (p + length (v ∷ a)) b)
    (order_lines n (suc p) (a ++ b)) (lines_append n (suc p) a b ∙ ap (λ q. order_lines n (suc p) a ++ order_lines n q b) e)

pub lines_absent : (n p d : ℕ) → order_lines n p (replicate d absent) ≡ []
unfolding order_lines
lines_absent n p zero = refl
lines_absent n p (suc d) = lines_absent n (suc p) d

pub lines_one : (n p : ℕ) (v : ℤ) → is_absent v ≡ false → order_lines n p (v ∷ []) ≡ order_text (p / n) (p % n) v ∷ []
unfolding order_lines
lines_one n p v e = rw e

count_by : (t : Bool) (a b c : ℕ) → a ≡ b + c → cond t a (suc a) ≡ cond t b (suc b) + c
count_by true a b c e = e
count_by false a b c e = omega arith

pub count_append : (a b : List ℤ) → present_count (a ++ b) ≡ present_count a + present_count b
unfolding present_count
count_append [] b = omega arith
count_append (v ∷ a) b =
    count_by (is_absent v) (present_count (a ++ b)) (present_count a) (present_count b) (count_append a b)

pub count_absent : (d : ℕ) → present_count (replicate d absent) ≡ 0
unfolding present_count
count_absent zero = refl
count_absent (suc d) = count_absent d

pub count_one : (v : ℤ) → is_absent v ≡ false → present_count (v ∷ []) ≡ 1
unfolding present_count
count_one v e = rw e

-- at most every place is present
pub count_le : (e : List ℤ) → present_count e ≤ length e
unfolding present_count
count_le [] = omega arith
count_le (v ∷ e) = go (is_absent v) (count_le e)
  where
    go : (t : Bool) → present_count e ≤ length e → cond t (present_count e) (suc (present_count e)) ≤ suc (length e)
    go true h = omega arith
    go false h = omega arith

-- entries in two parts stand if both do
pub entries_none : Entries order_limit []
entries_none k h p = absurd (omega arith)

module _ (a b : List ℤ) where
  pub entries_append : Entries order_limit a → Entries order_limit b → Entries order_limit (a ++ b)
  entries_append p q k h = go (native.Mathlib.Decide.dec_lt k (length a))
    where
      go : Dec (k < length a) → Present (get_or (a ++ b) k (pos 0)) → Order order_limit (get_or (a ++ b) k (pos 0))
      go (yes g) = rw (get_or-append a b (pos 0) k g) (p k g)
      go (no g) =
          let e : k ≡ length a + (k - length a) = omega arith in
          let f : get_or (a ++ b) k (pos 0) ≡ get_or b (k - length a) (pos 0) =
          ap (λ i. get_or (a ++ b) i (pos 0)) e ∙ get_or-append-add a b (k - length a) (pos 0) in
          rw f (q (k - length a) (omega (arith, length-append a b)))

  pub entries_right : Entries order_limit (a ++ b) → Entries order_limit b
  entries_right p k h =
      let f : get_or (a ++ b) (length a + k) (pos 0) ≡ get_or b k (pos 0) = get_or-append-add a b k (pos 0) in
      rw f at (p (length a + k) (omega (arith, length-append a b)))

pub entries_absent : (d : ℕ) → Entries order_limit (replicate d absent)
entries_absent d k h p =
    absurd (p (get_or-replicate d k absent (pos 0) (omega (arith, length-replicate {A = ℤ} d absent))))

pub entries_one : (v : ℤ) → Order order_limit v → Entries order_limit (v ∷ [])
entries_one v o zero h p = o
entries_one v o (suc k) h p = absurd (omega arith)
