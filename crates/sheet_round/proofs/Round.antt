-- What write_sheet writes, read_sheet reads back; what read_sheet reads, write_sheet writes back, byte for byte. Both follow from the
-- two promises alone. Assumes nothing.
use mathlib.Core.Path.{◌≡◌, refl, sym, ap, subst, subst⁻¹, ◌∙◌}
use mathlib.Core.List.{List, [], ◌∷◌}
use Prim.Native.Nat.{ℕ, ◌*◌, ◌≤◌}
use native.Mathlib.Omega.{arith}
use lib.ListN.{length, take, drop}
use lib.Seq.{take_at}
use Rattle.theory.specs.Limits.{order_limit}
use Rattle.theory.specs.Table.{Entries}
use Rattle.orders.specs.Refusals.{Said, gives, Clear, WrongLength}
use Rattle.orders.proofs.Refusals.{given_once, not_both, right_lengths}
use Rattle.handed.proofs.Basics.{in_size, sized, entries_known}
use Rattle.sheet.specs.Text.{over}
use Rattle.sheet.specs.Labels.{width, Labels, slots}
use Rattle.sheet.specs.Sheet.{Labelled, Stands, sheet_of}
use Rattle.sheet.proofs.Slots.{slots_length, labels_short}
use Rattle.reader.specs.Promise as reading
use Rattle.reader.specs.Promise.{Lent, written, ReadPromise, read}
use Rattle.reader.proofs.PromiseLaws.{all_clear as read_clear}
use Rattle.reader.proofs.Unique as reader
use Rattle.writer.specs.Promise as writing
use Rattle.writer.specs.Promise.{Model, model, Labelling, writer_tests, WritePromise, wrote}
use Rattle.writer.proofs.Refusing.{all_clear as write_clear}
use Rattle.writer.proofs.Unique as writer
use Rattle.sheet_round.proofs.Bound.{sheet_fits}

-- labels in a buffer of 8 × n bytes are n
count_of : (ls : List (List ℕ)) (b : List ℕ) (n : ℕ) → Labels ls → slots ls ≡ b → length b ≡ width * n → length ls ≡ n
count_of ls b n p e h = omega (arith, slots_length ls (labels_short ls p), ap length e)

-- lengths to which refusal 2 does not apply are the wanted ones
lengths_known : (h : Model) → (WrongLength (writing.slices h) → ⊥) → writing.Wanted h
lengths_known h f =
    let right = right_lengths (writing.slices h) f in
    record { table_length = right.0; rows_length = right.1.0; cols_length = right.1.1.0 }

-- what is handed to the writer and not refused is a labelled table within the limits, of as many rows as are handed
model_rows : (h : Model) (o : List ℕ) (t : Labelled) → Clear (writer_tests h o) → Labelling h t → length t.row_labels ≡ h.n
model_rows h o t c l =
    count_of t.row_labels h.row_labels h.n l.rows_stand l.rows_are (lengths_known h c.1.0).rows_length

model_stands : (h : Model) (o : List ℕ) (t : Labelled) → Clear (writer_tests h o) → Labelling h t → Stands t
model_stands h o t c l =
    let s = sized c.0 in
    let w = lengths_known h c.1.0 in
    let r = model_rows h o t c l in
    let k : length t.col_labels ≡ h.n = count_of t.col_labels h.col_labels h.n l.cols_stand l.cols_are w.cols_length in
    record {
      some = omega (arith, s.0);
      few = omega (arith, s.1);
      same = k ∙ sym r;
      square = ap length l.entries_are ∙ w.table_length ∙ ap (λ x. x * x) (sym r);
      rows_stand = l.rows_stand;
      cols_stand = l.cols_stand;
      entries_stand = subst⁻¹ (λ x. Entries order_limit x) l.entries_are (entries_known h.table c.1.1.0);
    }

-- what a reader answers to the sheet that was written for t
pub record ReadBack (h : Model) (m m' : Lent) (a : Said ℕ) : Type 0 where
  pub table : Labelled
  pub is_handed : Labelling h table
  pub answer : a ≡ gives h.n
  pub memory : m' ≡ written table m

-- reading a written sheet gives the same labelled table
pub read_back : (h : Model) (o o' : List ℕ) (k : ℕ) → WritePromise h o o' (gives k) → (m m' : Lent) (a : Said ℕ) → reading.Wanted m
    → ReadPromise (take k o') m m' a → ReadBack h m m' a
read_back h o o' k (writing.refused j l g e) m m' a w p = not_both k j [] g
read_back h o o' k (wrote t c l g e) m m' a w p =
    let st : Stands t = model_stands h o t c l in
    let q : take k o' ≡ sheet_of t =
    ap (λ x. take k x) e ∙ take_at (sheet_of t) (drop (length (sheet_of t)) o) k (sym (given_once k (length (sheet_of t)) g)) in
    let u = reader.promise_once (sheet_of t) m m' (written t m) a (gives (length t.row_labels)) (subst (λ x. ReadPromise x m m' a) q p)
    (read t (read_clear (sheet_of t) m w (sheet_fits t st)) (record { stands = st; is = refl }) refl refl) in
    record { table = t; is_handed = l; answer = u.answer ∙ ap gives (model_rows h o t c l); memory = u.memory }

-- the front of a buffer over which x was written is x
pub front : {A : Type 0} (x room : List A) (k : ℕ) → length x ≡ k → take k (over x room) ≡ x
front x room k e = take_at x (drop (length x) room) k e

-- what a writer answers to the table that was read from s
pub record WriteBack (s o o' : List ℕ) (a : Said ℕ) : Type 0 where
  pub answer : a ≡ gives (length s)
  pub memory : o' ≡ over s o

-- a sheet that is read is what the writer writes for its table, byte for byte
pub write_back : (s : List ℕ) (m m' : Lent) (n : ℕ) → ReadPromise s m m' (gives n) → (o o' : List ℕ) (a : Said ℕ) → length s ≤ length o
    → WritePromise (model n (take (n * n) m'.table) (take (width * n) m'.row_labels) (take (width * n) m'.col_labels)) o o' a
    → WriteBack s o o' a
write_back s m m' n (reading.refused k l f e) o o' a g p = not_both n k [] f
write_back s m m' n (reading.wrong_line k c r f e) o o' a g p = not_both n 10 (k ∷ []) f
write_back s m m' n (read t c x f e) o o' a g p =
    let st : Stands t = x.stands in
    let q : n ≡ length t.row_labels = given_once n (length t.row_labels) f in
    let tl : length t.entries ≡ n * n = st.square ∙ ap (λ y. y * y) (sym q) in
    let rl : length (slots t.row_labels) ≡ width * n =
    slots_length t.row_labels (labels_short t.row_labels st.rows_stand) ∙ ap (λ y. width * y) (sym q) in
    let cl : length (slots t.col_labels) ≡ width * n =
    slots_length t.col_labels (labels_short t.col_labels st.cols_stand) ∙ ap (λ y. width * y) (st.same ∙ sym q) in
    let te : take (n * n) m'.table ≡ t.entries = ap (λ y. take (n * n) y.table) e ∙ front t.entries m.table (n * n) tl in
    let re : take (width * n) m'.row_labels ≡ slots t.row_labels =
    ap (λ y. take (width * n) y.row_labels) e ∙ front (slots t.row_labels) m.row_labels (width * n) rl in
    let ce : take (width * n) m'.col_labels ≡ slots t.col_labels =
    ap (λ y. take (width * n) y.col_labels) e ∙ front (slots t.col_labels) m.col_labels (width * n) cl in
    let h : Model = model n (take (n * n) m'.table) (take (width * n) m'.row_labels) (take (width * n) m'.col_labels) in
    let is : Labelling h t =
    record { rows_are = sym re; cols_are = sym ce; rows_stand = st.rows_stand; cols_stand = st.cols_stand; entries_are = sym te } in
    let u = writer.promise_once h o o' (over s o) a (gives (length s)) p
    (wrote t
    (write_clear h o (in_size (λ z. omega (arith, st.some)) (omega (arith, st.few)))
    (record { table_length = ap length te ∙ tl; rows_length = ap length re ∙ rl; cols_length = ap length ce ∙ cl })
    (subst⁻¹ (λ y. Entries order_limit y) te st.entries_stand) t is (omega (arith, ap length x.is)))
    is (ap (λ y. gives (length y)) x.is) (ap (λ y. over y o) x.is)) in
    record { answer = u.answer; memory = u.memory }
