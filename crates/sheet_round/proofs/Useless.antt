-- Document 01's useless readers and writers, each shut out by a theorem: the promise fails for it, first at every labelled table
-- within the limits, then at named tables. Assumes nothing.
use mathlib.Core.Path.{◌≡◌, refl, sym, ap, ◌∙◌}
use mathlib.Core.Logic.{◌≢◌}
use mathlib.Core.Bool.{cond}
use mathlib.Core.List.{List, [], ◌∷◌}
use Prim.Native.Nat.{ℕ, zero, suc, ◌*◌, ◌<◌, ◌≤◌}
use native.Mathlib.Omega.{arith}
use lib.IntN.{ℤ, pos}
use lib.ListN.{length, get_or, take, replicate, length-replicate}
use Rattle.theory.specs.Limits.{row_limit, order_limit, sheet_limit}
use Rattle.theory.specs.Table.{absent, Entries}
use Rattle.orders.specs.Refusals.{Said, gives, refuses}
use Rattle.orders.proofs.Refusals.{given_once, not_both}
use Rattle.handed.proofs.Basics.{in_size}
use Rattle.sheet.specs.Text.{over}
use Rattle.sheet.specs.Labels.{LetterOrDigit, small, width, Form, Labels, slots}
use Rattle.sheet.specs.Sheet.{Labelled, Stands, is_absent, sheet_of}
use Rattle.sheet.proofs.Slots.{slots_length, slots_once, labels_short}
use Rattle.sheet.proofs.Orders.{entries_one}
use Rattle.sheet.proofs.Matching.{sheet_once}
use Rattle.reader.specs.Promise as reading
use Rattle.reader.specs.Promise.{Lent, lent, written, ReadPromise, read}
use Rattle.reader.proofs.PromiseLaws.{all_clear as read_clear}
use Rattle.reader.proofs.Unique as reader
use Rattle.writer.specs.Promise.{Model, model, Labelling, WritePromise, wrote}
use Rattle.writer.proofs.Refusing.{all_clear as write_clear}
use Rattle.writer.proofs.Unique as writer
use Rattle.sheet_round.proofs.Bound.{sheet_fits}
use Rattle.sheet_round.proofs.Round.{front}

-- ---- at every labelled table within the limits
-- the reader's promise leaves one answer and one memory open at the sheet of a table: N and the table itself
read_only : (t : Labelled) → Stands t → (m m' : Lent) (a : Said ℕ) → reading.Wanted m → ReadPromise (sheet_of t) m m' a
    → reader.Same a (gives (length t.row_labels)) m' (written t m)
read_only t st m m' a w p =
    reader.promise_once (sheet_of t) m m' (written t m) a (gives (length t.row_labels)) p
    (read t (read_clear (sheet_of t) m w (sheet_fits t st)) (record { stands = st; is = refl }) refl refl)

-- the call of the writer that hands it the table t
abbrev pub handing : Labelled → Model
handing t = model (length t.row_labels) t.entries (slots t.row_labels) (slots t.col_labels)

-- and the writer's promise leaves open the length of the sheet, and the sheet over the front of the room
write_only : (t : Labelled) → Stands t → (o o' : List ℕ) (a : Said ℕ) → length (sheet_of t) ≤ length o → WritePromise (handing t) o o' a
    → writer.Same a (gives (length (sheet_of t))) o' (over (sheet_of t) o)
write_only t st o o' a f p =
    writer.promise_once (handing t) o o' (over (sheet_of t) o) a (gives (length (sheet_of t))) p
    (wrote t
    (write_clear (handing t) o (in_size (λ z. omega (arith, st.some)) st.few)
    (record {
      table_length = st.square;
      rows_length = slots_length t.row_labels (labels_short t.row_labels st.rows_stand);
      cols_length = slots_length t.col_labels (labels_short t.col_labels st.cols_stand) ∙ ap (λ x. width * x) st.same;
    })
    st.entries_stand t is f)
    is refl refl)
  where
    is : Labelling (handing t) t
    is = record { rows_are = refl; cols_are = refl; rows_stand = st.rows_stand; cols_stand = st.cols_stand; entries_are = refl }

-- no refusal, by whatever number and values, meets the reader's promise at the sheet of a table
pub no_sheet_is_refused : (t : Labelled) → Stands t → (m m' : Lent) (k : ℕ) (v : List ℕ) → reading.Wanted m
    → ReadPromise (sheet_of t) m m' (refuses k v) → ⊥
no_sheet_is_refused t st m m' k v w p =
    not_both (length t.row_labels) k v (sym (read_only t st m m' (refuses k v) w p).answer)

-- nor the writer's promise at a table, with room for its sheet
pub no_table_is_refused : (t : Labelled) → Stands t → (o o' : List ℕ) (k : ℕ) (v : List ℕ) → length (sheet_of t) ≤ length o
    → WritePromise (handing t) o o' (refuses k v) → ⊥
no_table_is_refused t st o o' k v f p =
    not_both (length (sheet_of t)) k v (sym (write_only t st o o' (refuses k v) f p).answer)

-- One answer with one memory after the call, whatever was lent before it, is right at the sheet of one table at most: N is the answer,
-- and the first N × N entries and 8 × N bytes of the labels are the table.
pub one_answer_one_table : (a b : Labelled) → Stands a → Stands b → (m p m' : Lent) (x : Said ℕ) → reading.Wanted m → reading.Wanted p
    → ReadPromise (sheet_of a) m m' x → ReadPromise (sheet_of b) p m' x → a ≡ b
one_answer_one_table a b sa sb m p m' x wm wp f g =
    let u = read_only a sa m m' x wm f in
    let v = read_only b sb p m' x wp g in
    let n : length b.row_labels ≡ length a.row_labels =
    given_once (length b.row_labels) (length a.row_labels) (sym v.answer ∙ u.answer) in
    let same : written a m ≡ written b p = sym u.memory ∙ v.memory in
    let e : a.entries ≡ b.entries =
    fronts a.entries m.table b.entries p.table (ap (λ y. y.table) same)
    (sa.square ∙ sym (sb.square ∙ ap (λ y. y * y) n)) in
    let r : a.row_labels ≡ b.row_labels =
    slots_once a.row_labels b.row_labels sa.rows_stand sb.rows_stand
    (fronts (slots a.row_labels) m.row_labels (slots b.row_labels) p.row_labels (ap (λ y. y.row_labels) same)
    (places a.row_labels b.row_labels sa.rows_stand sb.rows_stand (sym n))) in
    let c : a.col_labels ≡ b.col_labels =
    slots_once a.col_labels b.col_labels sa.cols_stand sb.cols_stand
    (fronts (slots a.col_labels) m.col_labels (slots b.col_labels) p.col_labels (ap (λ y. y.col_labels) same)
    (places a.col_labels b.col_labels sa.cols_stand sb.cols_stand (sa.same ∙ sym (sb.same ∙ n)))) in
    parts r c e
  where
    parts : a.row_labels ≡ b.row_labels → a.col_labels ≡ b.col_labels → a.entries ≡ b.entries → a ≡ b
    parts r c e =
        ap (λ y. record { row_labels = y; col_labels = a.col_labels; entries = a.entries }) r
        ∙ ap (λ y. record { row_labels = b.row_labels; col_labels = y; entries = a.entries }) c
        ∙ ap (λ y. record { row_labels = b.row_labels; col_labels = b.col_labels; entries = y }) e

    -- texts of one length over the front of the same memory are the same
    fronts : {A : Type 0} (x s y t : List A) → over x s ≡ over y t → length x ≡ length y → x ≡ y
    fronts x s y t q l =
        sym (front x s (length x) refl) ∙ ap (λ z. take (length x) z) q ∙ front y t (length x) (sym l)

    places : (x y : List (List ℕ)) → Labels x → Labels y → length x ≡ length y → length (slots x) ≡ length (slots y)
    places x y p q l =
        slots_length x (labels_short x p) ∙ ap (λ z. width * z) l ∙ sym (slots_length y (labels_short y q))

-- the same of the writer: one answer with one room after the call is right for one table at most
pub one_sheet_one_table : (a b : Labelled) → Stands a → Stands b → (o p o' : List ℕ) (x : Said ℕ) → length (sheet_of a) ≤ length o
    → length (sheet_of b) ≤ length p → WritePromise (handing a) o o' x → WritePromise (handing b) p o' x → a ≡ b
one_sheet_one_table a b sa sb o p o' x fa fb f g =
    let u = write_only a sa o o' x fa f in
    let v = write_only b sb p o' x fb g in
    let k = length (sheet_of a) in
    let n : length (sheet_of b) ≡ k = given_once (length (sheet_of b)) k (sym v.answer ∙ u.answer) in
    sheet_once a b sa sb
    (sym (front (sheet_of a) o k refl) ∙ ap (λ y. take k y) (sym u.memory ∙ v.memory) ∙ front (sheet_of b) p k n)

-- ---- at named tables: the 1 × 1 with one label `a` for its row and its column
abbrev pub single : ℤ → Labelled
single v = record { row_labels = (97 ∷ []) ∷ []; col_labels = (97 ∷ []) ∷ []; entries = v ∷ [] }

-- "one empty table": its place is absent; and the table `0`
abbrev pub empty : Labelled
empty = single absent

abbrev pub nought : Labelled
nought = single (pos 0)

label_a : Labels ((97 ∷ []) ∷ [])
label_a =
    record {
      form = at;
      apart = λ i k p h. absurd (omega arith);
    }
  where
    letter : (k : ℕ) → k < 1 → LetterOrDigit (get_or (97 ∷ []) k 0)
    letter zero h = small (omega arith) (omega arith)
    letter (suc k) h = absurd (omega arith)

    at : (k : ℕ) → k < 1 → Form (get_or ((97 ∷ []) ∷ []) k [])
    at zero h = record { some = omega arith; few = omega arith; letters = letter }
    at (suc k) h = absurd (omega arith)

single_stands : (v : ℤ) → Entries order_limit (v ∷ []) → Stands (single v)
single_stands v e =
    record {
      some = omega arith;
      few = omega arith;
      same = refl;
      square = refl;
      rows_stand = label_a;
      cols_stand = label_a;
      entries_stand = e;
    }

empty_stands : Stands empty
empty_stands = single_stands absent go
  where
    go : Entries order_limit (absent ∷ [])
    go zero h p = absurd (p refl)
    go (suc k) h p = absurd (omega arith)

nought_stands : Stands nought
nought_stands = single_stands (pos 0) (entries_one (pos 0) (record { low = omega arith; high = omega arith }))

empty_is_not_nought : empty ≢ nought
empty_is_not_nought e =
    let z : ◌≡◌ {A = ℕ} 1 0 = ap (λ (t : Labelled). cond (is_absent (get_or t.entries 0 (pos 0))) 1 0) e in
    omega arith

-- buffers of the wanted lengths are there to be lent
abbrev pub zeros : Lent
zeros = lent (replicate (row_limit * row_limit) (pos 0)) (replicate (width * row_limit) 0) (replicate (width * row_limit) 0)

pub zeros_are_wanted : reading.Wanted zeros
zeros_are_wanted =
    record {
      table_length = length-replicate {A = ℤ} (row_limit * row_limit) (pos 0);
      rows_length = length-replicate {A = ℕ} (width * row_limit) 0;
      cols_length = length-replicate {A = ℕ} (width * row_limit) 0;
    }

-- and so is room for the two sheets
abbrev pub room : List ℕ
room = replicate sheet_limit 0

pub room_is_enough : (length (sheet_of empty) ≤ length room) × (length (sheet_of nought) ≤ length room)
room_is_enough =
    let l = length-replicate {A = ℕ} sheet_limit 0 in
    (omega (arith, sheet_fits empty empty_stands, l), omega (arith, sheet_fits nought nought_stands, l))

-- "a reader .. that always refuses": the sheet of the table `0` is not refused
pub refusing_reader_is_shut_out : (m m' : Lent) (k : ℕ) (v : List ℕ) → reading.Wanted m → ReadPromise (sheet_of nought) m m' (refuses k v) → ⊥
refusing_reader_is_shut_out m m' k v w p = no_sheet_is_refused nought nought_stands m m' k v w p

-- "or writer that always refuses": nor is that table
pub refusing_writer_is_shut_out : (o o' : List ℕ) (k : ℕ) (v : List ℕ) → length (sheet_of nought) ≤ length o
    → WritePromise (handing nought) o o' (refuses k v) → ⊥
refusing_writer_is_shut_out o o' k v f p = no_table_is_refused nought nought_stands o o' k v f p

-- "or gives back one empty table": what is right at the sheet of the empty table is wrong at the sheet of the table `0`
pub one_table_is_shut_out : (m m' : Lent) (a : Said ℕ) → reading.Wanted m → ReadPromise (sheet_of empty) m m' a → ReadPromise (sheet_of nought) m m' a → ⊥
one_table_is_shut_out m m' a w f g =
    empty_is_not_nought (one_answer_one_table empty nought empty_stands nought_stands m m m' a w w f g)

-- and a writer that gives one sheet is wrong for one of these tables
pub one_sheet_is_shut_out : (o o' : List ℕ) (a : Said ℕ) → length (sheet_of empty) ≤ length o → length (sheet_of nought) ≤ length o
    → WritePromise (handing empty) o o' a → WritePromise (handing nought) o o' a → ⊥
one_sheet_is_shut_out o o' a x y f g =
    empty_is_not_nought (one_sheet_one_table empty nought empty_stands nought_stands o o o' a x y f g)
