-- What the test of a place tells. Assumes nothing.
use mathlib.Core.Path.{◌≡◌}
use mathlib.Core.Bool.{Bool}
use mathlib.Core.List.{List}
use Prim.Native.Nat.{ℕ, ◌<◌}
use lib.IntN.{ℤ, pos, ◌+ℤ◌}
use Rattle.theory.specs.Lists.{nums, ints}
use Rattle.theory.specs.Table.{Present, entry}
use Rattle.theory.specs.Canon.{Maximum, Heads}
use Rattle.theory.proofs.Duality.{maximum_head, under_head}
use Rattle.orders.specs.Tested.{Tells}
use Rattle.ways.specs.Heads.{HeadsStand}

-- the heads of the columns are such
pub heads_stand : {t : List ℤ} {n : ℕ} {l : List ℕ} {h : List ℤ} → Heads n (entry t n) (nums l) (ints h) → HeadsStand t n l h
heads_stand {t} {n} heads = record {
  unexceeded = λ i j hi hj p. under_head n (entry t n) (heads j hj) i hi p;
  reached = λ i j hi hj m. maximum_head n (entry t n) (heads j hj) hi m;
}

-- a present order that, raised, is the head of its column is a column maximum, and the other way round
pub tight_maximum : {t : List ℤ} {n : ℕ} {l : List ℕ} {h : List ℤ} → HeadsStand t n l h → (i j : ℕ) → i < n → j < n → {r : Bool}
    → Tells r (Present (entry t n i j) × (entry t n i j +ℤ pos (nums l i) ≡ ints h j)) → Tells r (Maximum n (entry t n) (nums l) i j)
tight_maximum heads i j hi hj told = record {
  holds = λ e. let m = told.holds e in record { present = m.0; unexceeded = λ k hk p. rw m.1 (heads.unexceeded k j hk hj p) };
  fails = λ e m. told.fails e (m.present, heads.reached i j hi hj m);
}
