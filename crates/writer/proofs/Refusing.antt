-- Which refusal of the writer is the first that applies, from what the tests told, and when none does. Assumes nothing.
use mathlib.Core.Path.{refl, ap}
use mathlib.Core.Logic.{inl, inr}
use mathlib.Core.List.{List, []}
use Prim.Native.Nat.{ℕ, ◌≤◌, ◌<◌}
use native.Mathlib.Omega.{arith}
use lib.ListN.{length}
use Rattle.theory.specs.Limits.{order_limit}
use Rattle.theory.specs.Table.{Entries}
use Rattle.orders.specs.Refusals.{Clear, WrongLength, refuses}
use Rattle.orders.proofs.Refusals.{right_not_wrong}
use Rattle.handed.specs.Conditions.{OutOfSize, WrongEntry}
use Rattle.handed.proofs.Basics.{entries_right}
use Rattle.sheet.specs.Sheet.{Labelled, sheet_of}
use Rattle.writer.specs.Promise.{Model, Wanted, slices, Labelling, WrongLabel, writer_tests, WritePromise, refused}
use Rattle.labels.proofs.SlotLaws.{buffer_right, labels_buffer}
use Rattle.writer.proofs.Unique.{labelling_once}

module _ (h : Model) (room : List ℕ) where
  pub refuse_size : OutOfSize h.n → WritePromise h room room (refuses 1 [])
  refuse_size out = refused 1 (inl (out, refl)) refl refl

  -- each test that was passed is a refusal that does not apply
  module _ (size : OutOfSize h.n → ⊥) where
    pub refuse_length : WrongLength (slices h) → WritePromise h room room (refuses 2 [])
    refuse_length wrong = refused 2 (inr (size, inl (wrong, refl))) refl refl

    module _ (lengths : Wanted h) where
      right : WrongLength (slices h) → ⊥
      right = right_not_wrong (slices h) (lengths.table_length, (lengths.rows_length, (lengths.cols_length, tt)))

      pub refuse_entry : WrongEntry h.table → WritePromise h room room (refuses 3 [])
      refuse_entry wrong = refused 3 (inr (size, inr (right, inl (wrong, refl)))) refl refl

      module _ (entries : Entries order_limit h.table) where
        pub refuse_label : WrongLabel h → WritePromise h room room (refuses 11 [])
        refuse_label wrong = refused 11 (inr (size, inr (right, inr (entries_right entries, inl (wrong, refl))))) refl refl

        module _ (t : Labelled) (is : Labelling h t) where
          no_wrong_label : WrongLabel h → ⊥
          no_wrong_label (inl w) =
              let long = lengths.rows_length in
              buffer_right h.n h.row_labels long (labels_buffer t.row_labels h.n h.row_labels is.rows_are long is.rows_stand) w
          no_wrong_label (inr w) =
              let long = lengths.cols_length in
              buffer_right h.n h.col_labels long (labels_buffer t.col_labels h.n h.col_labels is.cols_are long is.cols_stand) w

          pub refuse_room : length room < length (sheet_of t) → WritePromise h room room (refuses 12 [])
          refuse_room less =
              refused 12 (inr (size, inr (right, inr (entries_right entries, inr (no_wrong_label, inl ((t, is, less), refl)))))) refl refl

          -- the one labelled table that is handed has a sheet that fits
          pub all_clear : length (sheet_of t) ≤ length room → Clear (writer_tests h room)
          all_clear fits = (size, (right, (entries_right entries, (no_wrong_label, ((λ f. less f.0 f.1 f.2), tt)))))
            where
              less : (u : Labelled) → Labelling h u → length room < length (sheet_of u) → ⊥
              less u i f = omega (arith, ap (λ x. length (sheet_of x)) (labelling_once h t u is i))
