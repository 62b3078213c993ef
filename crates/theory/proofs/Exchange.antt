-- The exchange lemma of the first stars, over any decided set of rows. Assumes nothing.
use mathlib.Core.Path.{◌≡◌, sym, ◌∙◌, ap}
use Prim.Native.Nat.{ℕ, ◌≤◌, ◌<◌}
use native.Mathlib.Decide.{dec_le, dec_lt, ℕ_discrete}
use native.Mathlib.Omega.{arith}
use lib.IntN.{ℤ}
use Rattle.theory.specs.Canon.{Maximum, OfMaxima}
use Rattle.theory.specs.Paths.{Leads}
use Rattle.theory.proofs.Pigeonhole.{dec_both, dec_not, closed_onto}

-- σ and ρ undo each other below n, τ is a complete transversal of column maxima that agrees with σ before row i, and R is a set of
-- rows with row i in it. If R holds every later row to which a row of R leads, and row i has no maximum before
-- column b in the column of a row of R, then τ has column b or a later one in row i.
-- For the rows from i on that are not in R are kept within themselves by the map from row k to the row that σ has in column τ k,
-- so that by P1 each of them is taken by one of them. Were τ i before b, row i would be taken to such a row as well, though it is in R.
module _ (n : ℕ) (a : ℕ → ℕ → ℤ) (l σ ρ : ℕ → ℕ) (row : (j : ℕ) → j < n → ρ j < n) (forth : (j : ℕ) → j < n → σ (ρ j) ≡ j)
    (R : ℕ → Type 0) (dec : (k : ℕ) → Dec (R k)) (i b : ℕ) (inside : i < n) (root : R i)
    (back : (m k : ℕ) → i < k → R m → Leads n (Maximum n a l) σ m k → R k)
    (none : (j : ℕ) → j < b → j < n → Maximum n a l i j → R (ρ j) → ⊥)
    (τ : ℕ → ℕ) (of : OfMaxima n a l τ) (same : (k : ℕ) → k < i → τ k ≡ σ k) where
  -- the rows from i on that are not in R
  abbrev Cut : ℕ → Type 0
  Cut k = (k < n) × ((i ≤ k) × (R k → ⊥))

  dec_cut : (k : ℕ) → Dec (Cut k)
  dec_cut k = dec_both (dec_lt k n) (dec_both (dec_le i k) (dec_not (dec k)))

  -- the row that has column τ k
  abbrev turn : ℕ → ℕ
  turn k = ρ (τ k)

  column : (k : ℕ) → k < n → τ k < n
  column = of.transversal.inside

  turn_apart : (k m : ℕ) → k < n → m < n → turn k ≡ turn m → k ≡ m
  turn_apart k m hk hm e =
      of.transversal.apart k m hk hm (sym (forth (τ k) (column k hk)) ∙ ap σ e ∙ forth (τ m) (column m hm))

  -- the rows before i have their columns, so that a row from i on is turned to one from i on
  turn_late : (k : ℕ) → k < n → i ≤ k → i ≤ turn k
  turn_late k hk le = go (dec_le i (turn k))
    where
      go : Dec (i ≤ turn k) → i ≤ turn k
      go (yes p) = p
      go (no q) =
          let lt : turn k < i = omega arith in
          let e = of.transversal.apart (turn k) k (omega arith) hk (same (turn k) lt ∙ forth (τ k) (column k hk)) in
          absurd (omega arith)

  turn_cut : (k : ℕ) → Cut k → Cut (turn k)
  turn_cut k (hk, (le, out)) = (row (τ k) (column k hk), (turn_late k hk le, λ r. out (go (dec_lt i k) r)))
    where
      led : R (turn k) → i < k → Dec (k ≡ turn k) → R k
      led r lt (yes e) = rw e r
      led r lt (no ne) =
          let e = forth (τ k) (column k hk) in
          back (turn k) k lt r
          (record { from = row (τ k) (column k hk); column = rw e (column k hk); to = hk; another = ne; holds = rw e (of.maximum k hk) })

      go : Dec (i < k) → R (turn k) → R k
      go (yes lt) r = led r lt (ℕ_discrete k (turn k))
      go (no ge) r = let e : k ≡ i = omega arith in rw e root

  pub exchange : b ≤ τ i
  exchange = go (dec_le b (τ i))
    where
      go : Dec (b ≤ τ i) → b ≤ τ i
      go (yes p) = p
      go (no q) =
          let cut : Cut (turn i) = (
            row (τ i) (column i inside),
            (turn_late i inside (omega arith), λ r. none (τ i) (omega arith) (column i inside) (of.maximum i inside) r),
          ) in
          let y = closed_onto n Cut dec_cut turn (λ k c. c.0) turn_cut (λ k m c d e. turn_apart k m c.0 d.0 e) (turn i) cut in
          let e = turn_apart y.0 i y.1.0 inside y.2 in
          absurd (y.1.1.1 (rw e root))
