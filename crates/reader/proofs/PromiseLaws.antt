-- The ways through the reader, and that each meets the promise. Assumes nothing.
use mathlib.Core.Path.{◌≡◌, refl, sym, ap, ◌∙◌}
use mathlib.Core.Logic.{inl, inr}
use mathlib.Core.List.{List, [], ◌∷◌, ◌++◌}
use Prim.Native.Nat.{ℕ, ◌+◌, ◌-◌, ◌*◌, ◌≤◌}
use native.Mathlib.Omega.{arith}
use lib.IntN.{ℤ}
use lib.ListN.{length, take, drop, replicate, length-append}
use lib.Seq.{take_at, take-append-add}
use Rattle.theory.specs.Limits.{row_limit, sheet_limit}
use Rattle.theory.specs.Table.{absent}
use Rattle.orders.specs.Refusals.{Clear, WrongLength, gives, refuses}
use Rattle.orders.proofs.Refusals.{right_not_wrong}
use Rattle.sheet.specs.Text.{over}
use Rattle.sheet.specs.Labels.{width, slots, Labels}
use Rattle.sheet.specs.Sheet.{TooLong}
use Rattle.sheet.specs.Reading.{table_of, WrongLine}
use Rattle.sheet.proofs.Slots.{slots_length, labels_short}
use Rattle.sheet.proofs.Matching.{read_is_written}
use Rattle.sheet.proofs.FirstWrong.{wrong_is_first}
use Rattle.lines.specs.Parts.{Holding}
use Rattle.std.proofs.lemmas.List.{take-replicate}
use Rattle.lines.specs.declared.Kept.{Kept}
use Rattle.reader.specs.Parts.{Ends}
use Rattle.reader.specs.Promise.{Lent, lent, Wanted, slices, reader_tests, ReadPromise, refused, wrong_line, read}
use Rattle.reader.proofs.WalkLaws.{places_few}

-- the three lengths
pub wanted : (t : List ℤ) (r c : List ℕ) → length t ≡ row_limit * row_limit → length r ≡ width * row_limit → length c ≡ width * row_limit → Wanted (lent t r c)
wanted t r c p q u = record { table_length = p; rows_length = q; cols_length = u }

-- to which refusal 2 does not apply
pub lengths_right : {m : Lent} → Wanted m → WrongLength (slices m) → ⊥
lengths_right {m} w = right_not_wrong (slices m) (w.table_length, (w.rows_length, (w.cols_length, tt)))

-- the first refusal that applies, from what the tests told; and when 2 and 9 do not
pub refuse_length : (s : List ℕ) (m : Lent) → WrongLength (slices m) → ReadPromise s m m (refuses 2 [])
refuse_length s m other = refused 2 (inl (other, refl)) refl refl

module _ (s : List ℕ) (m : Lent) (lengths : Wanted m) where
  pub refuse_long : TooLong s → ReadPromise s m m (refuses 9 [])
  refuse_long long = refused 9 (inr (lengths_right lengths, inl (long, refl))) refl refl

  pub all_clear : length s ≤ sheet_limit → Clear (reader_tests s m)
  all_clear few = (lengths_right lengths, ((λ long. omega arith), tt))

  pub refuse_line : length s ≤ sheet_limit → (k : ℕ) → WrongLine s k → ReadPromise s m m (refuses 10 (k ∷ []))
  refuse_line few k line = wrong_line k (all_clear few) (wrong_is_first s k line) refl refl

-- the first n × n entries of what is kept are the table's
table_front : (e : List ℤ) (k : ℕ) → length e ≤ k → k ≤ row_limit * row_limit
    → take k (e ++ replicate (row_limit * row_limit - length e) absent) ≡ e ++ replicate (k - length e) absent
table_front e k h g =
    let q : k ≡ length e + (k - length e) = omega arith in
    ap (λ i. take i (e ++ replicate (row_limit * row_limit - length e) absent)) q
    ∙ take-append-add e (replicate (row_limit * row_limit - length e) absent) (k - length e)
    ∙ ap (λ x. e ++ x) (take-replicate (k - length e) (row_limit * row_limit - length e) absent (omega arith))

-- the first bytes of a label buffer are the labels'
labels_front : (b : List ℕ) (ls : List (List ℕ)) → Holding b ls → Labels ls → take (width * length ls) b ≡ slots ls
labels_front b ls h p =
    ap (λ x. take (width * length ls) x) h
    ∙ take_at (slots ls) (replicate (width * row_limit - width * length ls) 0) (width * length ls) (slots_length ls (labels_short ls p))

-- a copy of the first k, where they are the whole of x, is x over the room
copied : {A : Type 0} (x from room : List A) (k : ℕ) → length x ≡ k → take k from ≡ x → take k from ++ drop k room ≡ over x room
copied x from room k e f = ap (λ y. y ++ drop k room) f ∙ ap (λ i. x ++ drop i room) (sym e)

copied_labels : (b room : List ℕ) (ls : List (List ℕ)) (n : ℕ) → length ls ≡ n → Holding b ls → Labels ls
    → take (width * n) b ++ drop (width * n) room ≡ over (slots ls) room
copied_labels b room ls n e h p =
    ap (λ i. take (width * i) b ++ drop (width * i) room) (sym e)
    ∙ copied (slots ls) b room (width * length ls) (slots_length ls (labels_short ls p)) (labels_front b ls h p)

-- a good sheet, whose table and labels were copied out
module _ {s : List ℕ} {n : ℕ} {kept : Kept} (e : Ends s n kept) (m : Lent) where
  copied_table : take (n * n) kept.table ++ drop (n * n) m.table ≡ over (table_of e.st).entries m.table
  copied_table =
      let st = e.st in
      let sq : length (table_of st).entries ≡ n * n =
      (read_is_written s (table_of st) e.read).stands.square ∙ ap (λ x. x * x) e.rows_are in
      let fit : length st.entries ≤ n * n =
      omega (
        arith,
        length-append st.entries (replicate (length st.row_labels * length st.row_labels - length st.entries) absent),
      ) in
      copied (table_of st).entries kept.table m.table (n * n) sq
      (ap (λ x. take (n * n) x) e.held.table_held
      ∙ table_front st.entries (n * n) fit (places_few e)
      ∙ ap (λ x. st.entries ++ replicate (x * x - length st.entries) absent) (sym e.rows_are))

  pub read_good : Wanted m → length s ≤ sheet_limit → (t : List ℤ) (r c : List ℕ) → t ≡ take (n * n) kept.table → r ≡ take (width * n) kept.rows
      → c ≡ take (width * n) kept.cols
      → ReadPromise s m (lent (t ++ drop (n * n) m.table) (r ++ drop (width * n) m.row_labels) (c ++ drop (width * n) m.col_labels)) (gives n)
  read_good w few t r c p q u =
      let st = e.st in
      let h = e.held in
      let x : t ++ drop (n * n) m.table ≡ over (table_of e.st).entries m.table = ap (λ y. y ++ drop (n * n) m.table) p ∙ copied_table in
      let y : r ++ drop (width * n) m.row_labels ≡ over (slots st.row_labels) m.row_labels =
      ap (λ y. y ++ drop (width * n) m.row_labels) q
      ∙ copied_labels kept.rows m.row_labels st.row_labels n e.rows_are h.rows_held h.rows_stand in
      let z : c ++ drop (width * n) m.col_labels ≡ over (slots st.col_labels) m.col_labels =
      ap (λ y. y ++ drop (width * n) m.col_labels) u
      ∙ copied_labels kept.cols m.col_labels st.col_labels n e.cols_are h.cols_held h.cols_stand in
      read (table_of st) (all_clear s m w few) (read_is_written s (table_of st) e.read) (ap gives (sym e.rows_are)) (λ i. lent (x i) (y i) (z i))
