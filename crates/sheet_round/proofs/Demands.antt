-- The definitions of sheets and the promises of reader and writer meet the customer's demands. Assumes nothing.
use mathlib.Core.Path.{◌≡◌, refl, sym, ap, ◌∙◌}
use mathlib.Core.Logic.{inl, inr}
use mathlib.Core.List.{List, [], ◌∷◌}
use Prim.Native.Nat.{ℕ}
use native.Mathlib.Omega.{arith}
use lib.ListN.{length}
use Rattle.orders.specs.Refusals.{Said, refuses, numbers, Rising, due}
use Rattle.orders.proofs.Refusals.{first_once, first_clear, first_lowest, same_number, not_both}
use Rattle.sheet.specs.Sheet.{sheet_of}
use Rattle.sheet.proofs.Matching.{labelled_once}
use Rattle.sheet.proofs.FirstWrong as wrong
use Rattle.sheet.proofs.Deciding.{sheet_or_wrong}
use Rattle.reader.specs.Promise.{Lent, reader_tests, ReadPromise, refused, wrong_line, read}
use Rattle.reader.proofs.Unique.{read_once}
use Rattle.writer.specs.Promise as writing
use Rattle.writer.specs.Promise.{Model, writer_tests, WritePromise, wrote}
use Rattle.writer.proofs.Unique.{write_once}
use Rattle.sheet_round.specs.Demands.{reader_due, SheetCalls, OneToOne}
use Rattle.sheet_round.proofs.Bound.{sheet_fits}
use Rattle.sheet_round.proofs.Round.{read_back, write_back}

-- ---- the reader refuses what it has to, and nothing else
module _ (s : List ℕ) (m m' : Lent) (a : Said ℕ) where
  reader_refused : (k : ℕ) (vs : List ℕ) → reader_due s m k vs → ReadPromise s m m' a → (a ≡ refuses k vs) × (m' ≡ m)
  reader_refused k vs (inl d) (refused j l e kept) =
      (e ∙ ap (λ (i : ℕ). refuses i []) (first_once (reader_tests s m) j k l d.0) ∙ ap (refuses k) (sym d.1), kept)
  reader_refused k vs (inl d) (wrong_line j c w e kept) = absurd (first_clear (reader_tests s m) k d.0 c)
  reader_refused k vs (inl d) (read t c r e kept) = absurd (first_clear (reader_tests s m) k d.0 c)
  reader_refused k vs (inr (line, clear, w, ten, one)) (refused j l e kept) = absurd (first_clear (reader_tests s m) j l clear)
  reader_refused k vs (inr (line, clear, w, ten, one)) (wrong_line j c v e kept) =
      (rw (ten, one) (e ∙ ap (λ (i : ℕ). refuses 10 (i ∷ [])) (wrong.first_once s j line v w)), kept)
  reader_refused k vs (inr (line, clear, w, ten, one)) (read t c r e kept) = absurd (w.no_sheet t r)

  reader_only_due : (k : ℕ) (vs : List ℕ) → ReadPromise s m m' a → a ≡ refuses k vs → reader_due s m k vs
  reader_only_due k vs (refused j l e kept) f =
      let (same, none) = same_number j k [] vs (sym e ∙ f) in inl (rw same l, none)
  reader_only_due k vs (wrong_line j c w e kept) f =
      let (same, one) = same_number 10 k (j ∷ []) vs (sym e ∙ f) in inr (j, c, w, same, one)
  reader_only_due k vs (read t c r e kept) f = not_both (length t.row_labels) k vs (sym e ∙ f)

-- ---- and so does the writer
module _ (h : Model) (o o' : List ℕ) (a : Said ℕ) where
  writer_refused : (k : ℕ) (vs : List ℕ) → due (writer_tests h o) k vs → WritePromise h o o' a
      → (a ≡ refuses k vs) × (o' ≡ o)
  writer_refused k vs d (writing.refused j l e kept) =
      (e ∙ ap (λ (i : ℕ). refuses i []) (first_once (writer_tests h o) j k l d.0) ∙ ap (refuses k) (sym d.1), kept)
  writer_refused k vs d (wrote t c l e is) = absurd (first_clear (writer_tests h o) k d.0 c)

  writer_only_due : (k : ℕ) (vs : List ℕ) → WritePromise h o o' a → a ≡ refuses k vs → due (writer_tests h o) k vs
  writer_only_due k vs (writing.refused j l e kept) f = let (same, none) = same_number j k [] vs (sym e ∙ f) in (rw same l, none)
  writer_only_due k vs (wrote t c l e is) f = not_both (length (sheet_of t)) k vs (sym e ∙ f)

-- ---- the numbers of each list of tests rise
reader_rises : (s : List ℕ) (m : Lent) → Rising (numbers (reader_tests s m))
reader_rises s m = omega arith

writer_rises : (h : Model) (o : List ℕ) → Rising (numbers (writer_tests h o))
writer_rises h o = omega arith

pub sheet_calls : SheetCalls
sheet_calls =
    record {
      reader = λ s m.
          record {
            once = λ r q m' m''. read_once s m m' m'' r q;
            refused = λ k vs r m'. reader_refused s m m' _ k vs;
            only_due = λ k vs r m'. reader_only_due s m m' _ k vs;
          };
      writer = λ h o.
          record {
            once = λ r q o' o''. write_once h o o' o'' r q;
            refused = λ k vs r o'. writer_refused h o o' _ k vs;
            only_due = λ k vs r o'. writer_only_due h o o' _ k vs;
          };
      reader_lowest = λ s m j k. first_lowest (reader_tests s m) j k (reader_rises s m);
      writer_lowest = λ h o j k. first_lowest (writer_tests h o) j k (writer_rises h o);
    }

pub one_to_one : OneToOne
one_to_one =
    record {
      has_sheet = λ t st. record { stands = st; is = refl };
      one_sheet = λ t s r p q. p.is ∙ sym q.is;
      never_too_long = sheet_fits;
      one_table = λ s t u. labelled_once;
      sheet_or_wrong = sheet_or_wrong;
      not_both = λ s t k p f. f.no_sheet t p;
      one_line = wrong.first_once;
      read_back = λ h o o' k m m' a p w q. let b = read_back h o o' k p m m' a w q in (b.table, b.is_handed, b.answer, b.memory);
      write_back = λ s m m' n o o' a p f q. let b = write_back s m m' n p o o' a f q in (b.answer, b.memory);
    }
