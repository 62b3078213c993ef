-- The promise of printing meets the customer's demand 1, and what requests 1 and 2 say of the printed answer. Assumes nothing.
use mathlib.Core.Path.{◌≡◌, sym, ap, ◌∙◌}
use mathlib.Core.List.{List, []}
use Prim.Native.Nat.{ℕ}
use native.Mathlib.Omega.{arith}
use lib.IntN.{ℤ}
use lib.ListN.{length}
use Rattle.theory.specs.Lists.{nums}
use Rattle.theory.specs.Table.{entry}
use Rattle.theory.specs.Canon.{LargestAddition}
use Rattle.theory.proofs.Counts.{count_once}
use Rattle.theory.proofs.Index.{index_near, index_kept, index_more, more_only, head_zero_from, head_zero_at}
use Rattle.theory.proofs.Ties.{head_holders}
use Rattle.orders.specs.Refusals.{Said, gives, refuses, says}
use Rattle.orders.proofs.Refusals.{same_number, not_both}
use Rattle.canon.specs.Answers.{Filled}
use Rattle.canon.specs.Demands.{HeadBuffers, FillsHeads}
use Rattle.canon.proofs.Unique.{same_list}
use Rattle.canon.proofs.Ties.{heads_told, heads_same}
use Rattle.page.specs.Printed.{Figures, printed}
use Rattle.printing.specs.Promise.{FiguresOf, PrintPromise, no_room, wrote}
use Rattle.printing.specs.Demands.{printing_due, Request2, PrintingCall}
use Rattle.printing.proofs.Fits.{answers_fit}
use Rattle.printing.proofs.Unique.{sheet_once, print_once}

module _ (s room room' : List ℕ) (r : Said ℕ) where
  printing_refused : (k : ℕ) (vs : List ℕ) → printing_due s room k vs → PrintPromise s room room' r → (r ≡ refuses k vs) × (room' ≡ room)
  printing_refused k vs (a, said, short, twelve, none) (no_room b g l e kept) = (rw (twelve, none) e, kept)
  printing_refused k vs (a, said, short, twelve, none) (wrote b g l e is) =
      let c : length (printed a) ≡ length (printed b) = ap (λ x. length (printed x)) (sheet_once s a b said g) in absurd (omega arith)

  printing_only_due : (k : ℕ) (vs : List ℕ) → PrintPromise s room room' r → r ≡ refuses k vs → printing_due s room k vs
  printing_only_due k vs (no_room b g l e kept) f =
      let (same, none) = same_number 12 k [] vs (sym e ∙ f) in (b, g, l, same, none)
  printing_only_due k vs (wrote b g l e is) f = not_both (length (printed b)) k vs (sym e ∙ f)

module _ (n : ℕ) (t : List ℤ) (f : Figures) (b b' : HeadBuffers) (r : Filled) where
  shared_columns : FiguresOf n t f → FillsHeads n t f.adds b r b' → says r ≡ gives tt → (b'.heads ≡ f.heads) × (b'.counts ≡ f.ties)
  shared_columns p q e =
      let w = heads_told b b' q e in (
        heads_same w f.heads p.heads_long p.solution.heads,
        same_list 0 b'.counts f.ties w.counts_long p.ties_long (λ j hj. count_once (head_holders n (entry t n) (w.tops j hj)) (p.is_ties j hj)),
      )

-- Request 2: the heads that are printed are those of the additions that are printed, so one of them is 0 exactly when some head is.
module _ (n : ℕ) (t : List ℤ) (f : Figures) (most : ℕ) where
  printed_index : FiguresOf n t f → LargestAddition n (nums f.adds) most → Request2 n t f most
  printed_index p o =
      let a = entry t n in
      record {
        near = index_near n a o p.is_index;
        kept = λ some. index_kept n a o some p.is_index;
        one_more = λ none j hj e. index_more n a o none (head_zero_from n a p.solution.heads j hj e) p.is_index;
        only_then = λ e. let (none, z) = more_only n a o p.is_index e in (none, head_zero_at n a p.solution.heads z);
      }

pub printing_call : PrintingCall
printing_call =
    record {
      printing = λ s room.
          record {
            once = λ r q room' room''. print_once s room room' room'' r q;
            refused = λ k vs r room'. printing_refused s room room' _ k vs;
            only_due = λ k vs r room'. printing_only_due s room room' _ k vs;
          };
      roomy = answers_fit;
      columns = shared_columns;
      index = printed_index;
    }
