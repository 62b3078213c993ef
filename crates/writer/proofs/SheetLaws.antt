-- The whole sheet of what is handed to the writer. Assumes nothing.
use mathlib.Core.Path.{◌≡◌, refl, ap, ◌∙◌}
use mathlib.Core.List.{List, []}
use Prim.Native.Nat.{ℕ, ◌<◌, ◌≤◌}
use native.Mathlib.Omega.{arith}
use lib.IntN.{ℤ}
use lib.ListN.{length}
use Rattle.theory.specs.Limits.{order_limit}
use Rattle.theory.specs.Table.{Entries}
use Rattle.orders.specs.Refusals.{gives, refuses}
use Rattle.handed.specs.Conditions.{OutOfSize}
use Rattle.sheet.specs.Text.{over}
use Rattle.sheet.specs.Sheet.{Labelled, sheet_of}
use Rattle.labels.specs.Parts.{labels_of, BufferStands}
use Rattle.labels.proofs.SlotLaws.{labels_count, buffer_slots, buffer_labels}
use Rattle.writer.specs.Parts.{sheet_text}
use Rattle.sheet.proofs.Orders.{sheet_bytes}
use Rattle.lettering.specs.Putting.{Puts}
use Rattle.writer.specs.Promise.{model, Wanted, Labelling, WritePromise, wrote}
use Rattle.writer.proofs.Refusing.{refuse_room, all_clear}

-- what is handed as a labelled table
abbrev pub labelled : ℕ → List ℤ → List ℕ → List ℕ → Labelled
labelled n t r c = record { row_labels = labels_of n r; col_labels = labels_of n c; entries = t }

pub sheet_text_is : (n : ℕ) (t : List ℤ) (r c : List ℕ) → sheet_text n t r c ≡ sheet_of (labelled n t r c)
sheet_text_is n t r c = rw (sheet_bytes (labelled n t r c), labels_count n r, labels_count n c)

-- the tests, one after the other
module _ (n : ℕ) (t : List ℤ) (r c : List ℕ) where
  module _ (s : OutOfSize n → ⊥) (w : Wanted (model n t r c)) where
    -- buffers that stand hold a labelled table
    pub labelling : BufferStands n r → BufferStands n c → Labelling (model n t r c) (labelled n t r c)
    labelling p q =
        record {
          rows_are = buffer_slots n r w.rows_length p;
          cols_are = buffer_slots n c w.cols_length q;
          rows_stand = buffer_labels n r w.rows_length p;
          cols_stand = buffer_labels n c w.cols_length q;
          entries_are = refl;
        }

    module _ (e : Entries order_limit t) (p : BufferStands n r) (q : BufferStands n c) (o : List ℕ) where
      pub write_refused : (k : ℕ) → k ≡ length (sheet_text n t r c) → length o < k → WritePromise (model n t r c) o o (refuses 12 [])
      write_refused k f g =
          refuse_room (model n t r c) o s w e (labelled n t r c) (labelling p q) (omega (arith, ap length (sheet_text_is n t r c)))

      pub write_good : (o' : List ℕ) (k : ℕ) → length (sheet_text n t r c) ≤ length o → Puts (sheet_text n t r c) o o' k
          → WritePromise (model n t r c) o o' (gives k)
      write_good o' k g y =
          wrote (labelled n t r c)
          (all_clear (model n t r c) o s w e (labelled n t r c) (labelling p q) (omega (arith, ap length (sheet_text_is n t r c)))) (labelling p q)
          (ap gives (y.is_length ∙ ap length (sheet_text_is n t r c))) (y.is ∙ ap (λ x. over x o) (sheet_text_is n t r c))
