-- A row comes to its first column, over the lists of the code. Assumes nothing.
use mathlib.Core.Path.{◌≡◌, refl, ◌∙◌, ap}
use mathlib.Core.Logic.{◌≢◌}
use mathlib.Core.List.{List}
use Prim.Native.Nat.{ℕ, ◌≤◌, ◌<◌}
use native.Mathlib.Decide.{dec_le, dec_lt}
use native.Mathlib.Omega.{arith}
use lib.IntN.{ℤ}
use Rattle.theory.specs.Lists.{nums}
use Rattle.theory.specs.Canon.{Maximum, OfMaxima}
use Rattle.theory.proofs.Exchange.{exchange}
use Rattle.std.specs.Prelude.{Bool, true, false, Option, None, Some, MatchOption, unwrap_or}
use Rattle.orders.specs.declared.marks.Marked.{Marked}
use Rattle.ways.specs.declared.raised.Raised.{Raised}
use Rattle.ways.specs.Parts.{size, order_at, added}
use Rattle.ways.specs.declared.Ways.{Ways}
use Rattle.ways.specs.Search.{LeastColumn, NoColumn, Searched}
use Rattle.stars.specs.Shift.{MaximaIn, Swapped, Starred, FirstCandidate}
use Rattle.ways.proofs.Joining.{root_found, root_alone}
use Rattle.stars.proofs.Swapping.{swap_stores, swap_long_rows, swap_long_columns}
use Rattle.stars.proofs.Shifting.{Shifting, of_marks, not_yet, shift_start, shift_next, shift_maxima, shift_takes}
use Rattle.orders.specs.Held.{Long}

-- the shift of the marks w₀ along the ways has come to row k and the marks w
pub record ShiftingIn (g : Raised) (i j : ℕ) (w₀ : Marked) (step : List ℕ) (w : Marked) (k m : ℕ) : Type 0 where
  pub long_rows : Long w.rows
  pub long_columns : Long w.columns
  pub shift : Shifting (size g) (order_at g) (added g) i j (nums w₀.columns) (nums step) (nums w.rows) (nums w.columns) k m

-- ---- the first candidate
-- a transversal of maxima with the same columns in the rows before i has the first candidate or a later column in row i
candidate_least : {g : Raised} {w : Marked} {i c : ℕ} → MaximaIn g w → i < size g → FirstCandidate g w i c
    → (τ : ℕ → ℕ) → OfMaxima (size g) (order_at g) (added g) τ → ((x : ℕ) → x < i → τ x ≡ nums w.columns x) → c ≤ τ i
candidate_least {g} {w} {i} {c} maxima hi f =
    exchange (size g) (order_at g) (added g) (nums w.columns) (nums w.rows) maxima.marks.row maxima.marks.forth
    (λ k. i ≤ k) (λ k. dec_le i k) i c hi (omega arith) (λ m k h known lead. omega arith) (λ j h hj max known. f.none j h max known)

-- where E tells of every row from i on that it is eligible
module _ {g : Raised} {w : Marked} {i : ℕ} {E : ℕ → Bool → Type 0} where
  -- the least column in which row i has a maximum and whose row is eligible is the first candidate
  pub candidate : {c : ℕ} → MaximaIn g w → i < size g → LeastColumn (size g) (order_at g) (added g) (nums w.rows) E i (nums w.columns i) c
      → ((k : ℕ) → k < size g → E k false → i ≤ k → ⊥) → FirstCandidate g w i c
  candidate maxima hi b told = record {
    inside = omega (arith, b.before, maxima.marks.column i hi);
    maximum = b.maximum;
    none = λ x h max known.
        told (nums w.rows x) (maxima.marks.row x (omega (arith, b.before, maxima.marks.column i hi))) (b.none x h max) known;
  }

  -- and if there is none, then its own column, so that row i is starred as it stands
  pub starred_so : MaximaIn g w → i < size g → NoColumn (size g) (order_at g) (added g) (nums w.rows) E i (nums w.columns i)
      → ((k : ℕ) → k < size g → E k false → i ≤ k → ⊥) → Starred g w i w
  starred_so maxima hi b told = record {
    maxima = maxima;
    before = λ x h. refl;
    first = candidate_least maxima hi (record {
      inside = maxima.marks.column i hi;
      maximum = maxima.of_maxima.maximum i hi;
      none = λ x h max known.
          told (nums w.rows x) (maxima.marks.row x (omega (arith, maxima.marks.column i hi))) (b.none x h max) known;
    });
  }

-- ---- otherwise the ways are searched and the marks shifted
-- column j is the least in which row i has a maximum and whose row is found, or else its own
pub record Chosen (n : ℕ) (a : ℕ → ℕ → ℤ) (l row_of step : ℕ → ℕ) (i own j : ℕ) : Type 0 where
  pub within : j ≤ own
  pub maximum : Maximum n a l i j
  pub found : 0 < step (row_of j)
  pub none : (x : ℕ) → x < j → Maximum n a l i x → 0 < step (row_of x) → ⊥

pub chosen : {n : ℕ} {a : ℕ → ℕ → ℤ} {l row_of step : ℕ → ℕ} (E : ℕ → Bool → Type 0) {i own : ℕ} (r : Option ℕ) {j : ℕ}
    → MatchOption r (NoColumn n a l row_of E i own) (LeastColumn n a l row_of E i own) → j ≡ unwrap_or r own
    → ((k : ℕ) → E k true → 0 < step k) → ((k : ℕ) → E k false → 0 < step k → ⊥) → Maximum n a l i own → 0 < step (row_of own)
    → Chosen n a l row_of step i own j
chosen E None b e yes_told no_told max known = rw e (record {
  within = omega arith;
  maximum = max;
  found = known;
  none = λ x h top. no_told _ (b.none x h top);
})
chosen E (Some j) b e yes_told no_told max known = rw e (record {
  within = omega (arith, b.before);
  maximum = b.maximum;
  found = yes_told _ b.eligible;
  none = λ x h top. no_told _ (b.none x h top);
})

module _ {g : Raised} {i j : ℕ} {w₀ : Marked} {ways : Ways} (maxima : MaximaIn g w₀) (hi : i < size g)
    {first : ℕ} (f : FirstCandidate g w₀ i first) (s : Searched g i w₀.columns (nums w₀.rows first) ways)
    (b : Chosen (size g) (order_at g) (added g) (nums w₀.rows) (nums ways.step) i (nums w₀.columns i) j) where
  own : nums w₀.columns i < size g
  own = maxima.marks.column i hi

  pub chosen_below : j < size g
  chosen_below = omega (arith, b.within, own)

  -- No transversal of maxima with the same columns in the rows before i has an earlier column in row i than the one chosen. If the row
  -- of the first candidate is found, the column chosen is no later than that; else every row that can be reached is found.
  chosen_least : (τ : ℕ → ℕ) → OfMaxima (size g) (order_at g) (added g) τ → ((x : ℕ) → x < i → τ x ≡ nums w₀.columns x) → j ≤ τ i
  chosen_least τ of same = go (dec_lt 0 (nums ways.step (nums w₀.rows first))) (dec_le j first)
    where
      go : Dec (0 < nums ways.step (nums w₀.rows first)) → Dec (j ≤ first) → j ≤ τ i
      go (yes known) (yes h) = omega (arith, candidate_least maxima hi f τ of same)
      go (yes known) (no h) = absurd (b.none first (omega arith) f.maximum known)
      go (no h) d =
          exchange (size g) (order_at g) (added g) (nums w₀.columns) (nums w₀.rows) maxima.marks.row maxima.marks.forth
          (λ x. 0 < nums ways.step x) (λ x. dec_lt 0 (nums ways.step x)) i j hi (root_found s.found.ways) (s.all (omega arith))
          (λ c h hc top known. b.none c h top known) τ of same

  pub move_start : ShiftingIn g i j w₀ ways.step w₀ i (nums w₀.rows j)
  move_start = record {
    long_rows = maxima.long_rows;
    long_columns = maxima.long_columns;
    shift = shift_start maxima.marks s.found.ways hi maxima.of_maxima chosen_below b.maximum b.found;
  }

  module _ {w : Marked} {k m : ℕ} (p : ShiftingIn g i j w₀ ways.step w k m) where
    -- the way has not come to row i, which has step 1
    under_way : nums ways.step m ≢ 1 → m ≢ i
    under_way on e = on (ap (nums ways.step) e ∙ s.found.ways.root)

    pub move_next : {r : Marked} → nums ways.step m ≢ 1 → Swapped w k m r → ShiftingIn g i j w₀ ways.step r m (nums ways.next m)
    move_next on is =
        let f = p.shift in
        let apart = not_yet maxima.marks s.found.ways hi f (under_way on) in
        record {
          long_rows = swap_long_rows is f.marks g.table.square.small p.long_rows p.long_columns f.row f.goal apart;
          long_columns = swap_long_columns is f.marks g.table.square.small p.long_rows p.long_columns f.row f.goal apart;
          shift = shift_next maxima.marks s.found.ways hi f (under_way on)
              (swap_stores is f.marks g.table.square.small p.long_rows p.long_columns f.row f.goal apart);
        }

    pub move_end : nums ways.step m ≡ 1 → Starred g w₀ i w
    move_end first =
        let end = root_alone s.found.ways m p.shift.goal first in
        let max = shift_maxima maxima.marks s.found.ways hi p.shift end in
        let takes = shift_takes maxima.marks s.found.ways hi p.shift end in
        record {
          maxima = record {
            long_rows = p.long_rows;
            long_columns = p.long_columns;
            marks = p.shift.marks;
            of_maxima = of_marks p.shift.marks max;
          };
          before = p.shift.before;
          first = λ τ of same. rw takes (chosen_least τ of (λ x h. same x h ∙ p.shift.before x h));
        }
