-- What the tests of the lists tell. Assumes nothing.
use mathlib.Core.Path.{◌≡◌}
use mathlib.Core.List.{List}
use Prim.Native.Nat.{ℕ, ◌+◌, ◌*◌, ◌/◌, ◌%◌, ◌≤◌, ◌<◌}
use native.Mathlib.Omega.{arith}
use lib.IntN.{ℤ}
use lib.ListN.{length}
use Rattle.theory.specs.Lists.{nums}
use Rattle.theory.specs.Table.{entry}
use Rattle.theory.specs.Canon.{SomeHeadZero, SomeNegative, plus_one, alone, follows, keeps}
use Rattle.theory.proofs.Index.{index_low, head_zero_from, head_zero_at}
use Rattle.orders.specs.Places.{ceiling}
use Rattle.orders.proofs.Places.{cell, row_inside, col_inside, row_col}
use Rattle.index_figure.specs.Parts.{Largest, NegativeIn, ZeroIn, Beyond, kept, one, none, HeadsKnown, IndexOf}

as_largest : {m r : ℕ} → r ≡ 0 → m + r ≡ m
as_largest e = omega arith

-- An element of the list is the entry of one row and column, and the entry of a row and column is one element. So what the lists tell is
-- what the definition asks.
module _ {t : List ℤ} {l : List ℕ} {h : List ℤ} (w : HeadsKnown t l h) where
  table_negative : NegativeIn t → SomeNegative (length l) (entry t (length l))
  table_negative (k, hk, m) =
      let n = length l in
      let inside : k < n * n = omega (arith, w.square) in
      record {
        row = k / n;
        column = k % n;
        row_inside = row_inside n k inside;
        column_inside = col_inside n k inside;
        negative = rw (row_col n k inside) m;
      }

  list_negative : SomeNegative (length l) (entry t (length l)) → NegativeIn t
  list_negative s =
      let n = length l in
      (s.row * n + s.column, omega (arith, w.square, cell n s.row s.column s.row_inside s.column_inside), s.negative)

  column_zero : ZeroIn h → SomeHeadZero (length l) (entry t (length l)) (nums l)
  column_zero (j, hj, e) = head_zero_from (length l) (entry t (length l)) w.heads j (omega (arith, w.heads_long)) e

  list_zero : SomeHeadZero (length l) (entry t (length l)) (nums l) → ZeroIn h
  list_zero z = let (j, hj, e) = head_zero_at (length l) (entry t (length l)) w.heads z in (j, omega (arith, w.heads_long), e)

  pub figure : {m r : ℕ} → Largest l m → Beyond t h r → IndexOf t l (m + r)
  figure {m} o (kept s e) = keeps (table_negative s) (rw (as_largest e) o)
  figure {m} o (one f z e) = follows (λ s. f (list_negative s)) (plus_one m (column_zero z) o (omega arith))
  figure {m} o (none f g e) = follows (λ s. f (list_negative s)) (alone (λ z. g (list_zero z)) (rw (as_largest e) o))

  -- and the sum fits 32 bits
  pub figure_small : {m r : ℕ} → Largest l m → Beyond t h r → m + r ≤ ceiling + 1
  figure_small o b = let (i, hi, le) = index_low (length l) (entry t (length l)) (figure o b) in omega (arith, w.low i hi)
