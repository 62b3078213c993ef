-- For the pendulum's sheet the promise of printing leaves one answer open: document 01's with request 1's ties and request 2's figure, byte by
-- byte. Assumes nothing.
use mathlib.Core.Path.{◌≡◌, refl, sym, ap, ◌∙◌}
use mathlib.Core.Logic.{◌≢◌}
use mathlib.Core.Bool.{Bool, ◌&&◌}
use mathlib.Core.List.{List, [], ◌∷◌}
use Prim.Native.Nat.{ℕ, zero, suc, ◌-◌, ◌≤◌, ◌<◌}
use native.Mathlib.Omega.{arith}
use lib.Dec.{T, leb, leb→le}
use lib.IntN.{pos, ◌+ℤ◌}
use lib.ListN.{length, get_or}
use Rattle.theory.specs.Totals.{none, one_more, passed_over}
use Rattle.theory.specs.Canon.{Maximum, Ties, Index}
use Rattle.theory.specs.Cases.{Right, nothing, answer, pendulum}
use Rattle.theory.specs.Table.{absent, Present, entry}
use Rattle.theory.specs.Lists.{nums, ints}
use Rattle.theory.proofs.Cases.{cases_right, index_right}
use Rattle.theory.proofs.Duality.{head_maximum}
use Rattle.theory.proofs.Signed.{signed}
use Rattle.theory.proofs.Search.{all, all_told, both, every, every_told}
use Rattle.orders.specs.Refusals.{Said, gives, refuses}
use Rattle.sheet.specs.Text.{ascii, over, text, digits}
use Rattle.sheet.specs.Labels.{small, width, Form, Labels}
use Rattle.sheet.specs.Sheet.{Labelled, Stands, sheet_of, ended_lines, order_lines, present_count}
use Rattle.page.specs.Printed.{Figures, figures, printed}
use Rattle.printing.specs.Shown.{pendulum_sheet, pendulum_answer}
use Rattle.printing.specs.Promise.{SheetSays, solved, of_table, PrintPromise, no_room, wrote}
use Rattle.printing.proofs.Unique.{sheet_once}

-- the table with its labels, and its figures
abbrev drawn : Labelled
drawn =
    record {
      row_labels = ascii "fx" ∷ ascii "fy" ∷ ascii "rod" ∷ [];
      col_labels = ascii "x" ∷ ascii "y" ∷ ascii "pull" ∷ [];
      entries = pendulum;
    }

abbrev shown : Figures
shown = figures (0 ∷ 0 ∷ 2 ∷ []) (1 ∷ 3 ∷ 2 ∷ []) (pos 2 ∷ pos 2 ∷ pos 0 ∷ []) (2 ∷ 2 ∷ 2 ∷ []) (pos 2) 3

-- both are computed: the one sheet of the labelled table, and the printed figures
sheet_is : sheet_of drawn ≡ pendulum_sheet
unfolding ended_lines order_lines present_count text digits
sheet_is = refl

answer_is : printed (gives shown) ≡ pendulum_answer
unfolding ended_lines text digits
answer_is = refl

-- "`refused 6`, or `refused 10 7` for line 7"
pub refusal_prints : (printed (refuses 6 []) ≡ ascii "refused 6\n") × (printed (refuses 10 (7 ∷ [])) ≡ ascii "refused 10 7\n")
unfolding text digits
refusal_prints = (refl, refl)

-- ---- the labels stand: a text of 1 to 8 small letters is a label, and these differ in their last letters
letter : List ℕ → ℕ → Bool
letter l k = leb 97 (get_or l k 0) && leb (get_or l k 0) 122

letter_tests : List ℕ → List Bool
letter_tests l = leb 1 (length l) ∷ leb (length l) width ∷ all (length l) (letter l) ∷ []

form : (l : List ℕ) → T (every (letter_tests l)) → Form l
unfolding letter_tests letter
form l t =
    record {
      some = leb→le 1 (length l) (every_told (letter_tests l) t 0);
      few = leb→le (length l) width (every_told (letter_tests l) t 1);
      letters = λ k h.
          let (low, high) = both (leb 97 (get_or l k 0)) (leb (get_or l k 0) 122) (all_told (length l) (letter l) (every_told (letter_tests l) t 2) k h) in
          small (leb→le 97 (get_or l k 0) low) (leb→le (get_or l k 0) 122 high);
    }

last : List ℕ → ℕ
last l = get_or l (length l - 1) 0

labels : (a b c : List ℕ) → T (every (letter_tests a)) → T (every (letter_tests b)) → T (every (letter_tests c)) → last a ≢ last b
    → last a ≢ last c → last b ≢ last c → Labels (a ∷ b ∷ c ∷ [])
labels a b c p q r ab ac bc = record { form = at; apart = apart }
  where
    at : (k : ℕ) → k < 3 → Form (get_or (a ∷ b ∷ c ∷ []) k [])
    at zero h = form a p
    at (suc zero) h = form b q
    at (suc (suc zero)) h = form c r
    at (suc (suc (suc k))) h = absurd (omega arith)

    apart : (i k : ℕ) → i < k → k < 3 → get_or (a ∷ b ∷ c ∷ []) i [] ≢ get_or (a ∷ b ∷ c ∷ []) k []
    apart zero zero x h = absurd (omega arith)
    apart zero (suc zero) x h = λ e. ab (ap last e)
    apart zero (suc (suc zero)) x h = λ e. ac (ap last e)
    apart (suc i) zero x h = absurd (omega arith)
    apart (suc zero) (suc zero) x h = absurd (omega arith)
    apart (suc zero) (suc (suc zero)) x h = λ e. bc (ap last e)
    apart (suc (suc i)) (suc zero) x h = absurd (omega arith)
    apart (suc (suc i)) (suc (suc zero)) x h = absurd (omega arith)
    apart i (suc (suc (suc k))) x h = absurd (omega arith)

-- the P table, as it is proved in the theory
right : Right (record {
  size = 3;
  table = pendulum;
  handed = nothing;
  outcome = answer shown.adds shown.stars shown.heads shown.sum;
})
right = cases_right.1.1.1.1.1.1.1.1.1.1.0

stands : Stands drawn
unfolding every letter_tests letter all last
stands =
    record {
      some = omega arith;
      few = omega arith;
      same = refl;
      square = refl;
      rows_stand = labels (ascii "fx") (ascii "fy") (ascii "rod") tt tt tt (omega arith) (omega arith) (omega arith);
      cols_stand = labels (ascii "x") (ascii "y") (ascii "pull") tt tt tt (omega arith) (omega arith) (omega arith);
      entries_stand = right.entries;
    }

-- the worked figure, as it is proved in the theory
index : Index 3 (entry pendulum 3) (nums shown.adds) 3
index = index_right.0

-- Every column has one absent place, and its two orders hold the head: raised by 0 0 2 the rows are 2 - 0 / - 2 0 / 2 2 -.
ties : Ties 3 (entry pendulum 3) (nums shown.adds) (nums shown.ties)
ties = go
  where
    there : (v : ℕ) → Present (pos v)
    there v e = omega (arith, signed, e)

    holds : (i j : ℕ) → j < 3 → Present (entry pendulum 3 i j) → (entry pendulum 3 i j +ℤ pos (nums shown.adds i)) ≡ ints shown.heads j
        → Maximum 3 (entry pendulum 3) (nums shown.adds) i j
    holds i j h p e = head_maximum 3 (entry pendulum 3) (right.comes.4.heads j h) p e

    out : (i j : ℕ) → entry pendulum 3 i j ≡ absent → Maximum 3 (entry pendulum 3) (nums shown.adds) i j → ⊥
    out i j e m = m.present e

    go : Ties 3 (entry pendulum 3) (nums shown.adds) (nums shown.ties)
    go zero h = one_more (passed_over (one_more none (holds 0 0 h (there 2) refl)) (out 1 0 refl)) (holds 2 0 h (there 0) refl)
    go (suc zero) h = one_more (one_more (passed_over none (out 0 1 refl)) (holds 1 1 h (there 2) refl)) (holds 2 1 h (there 0) refl)
    go (suc (suc zero)) h = passed_over (one_more (one_more none (holds 0 2 h (there 0) refl)) (holds 1 2 h (there 0) refl)) (out 2 2 refl)
    go (suc (suc (suc j))) h = absurd (omega arith)

says : SheetSays pendulum_sheet (gives shown)
says =
    of_table drawn (omega arith) (record { stands = stands; is = sym sheet_is })
    (solved shown
    (record {
      adds_long = refl;
      star_list = right.comes.1;
      heads_long = refl;
      ties_long = refl;
      solution = right.comes.4;
      is_ties = ties;
      is_index = index;
    })
    refl)

-- "prints exactly": given the room, the answer is its length, and the room begins with it
pub pendulum_prints : (room room' : List ℕ) (r : Said ℕ) → PrintPromise pendulum_sheet room room' r → length pendulum_answer ≤ length room
    → (r ≡ gives (length pendulum_answer)) × (room' ≡ over pendulum_answer room)
pendulum_prints room room' r p fits = go p
  where
    is : (a : Said Figures) → SheetSays pendulum_sheet a → printed a ≡ pendulum_answer
    is a s = ap printed (sheet_once pendulum_sheet a (gives shown) s says) ∙ answer_is

    go : PrintPromise pendulum_sheet room room' r → (r ≡ gives (length pendulum_answer)) × (room' ≡ over pendulum_answer room)
    go (no_room a s short e f) = absurd (omega (arith, ap length (is a s)))
    go (wrote a s long e f) = (e ∙ ap (λ x. gives (length x)) (is a s), f ∙ ap (λ x. over x room) (is a s))
