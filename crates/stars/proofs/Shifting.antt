-- The marks are shifted along the way from the column that row i takes to the column that it had. Assumes nothing.
use mathlib.Core.Path.{◌≡◌, refl, sym, ◌∙◌, ap}
use mathlib.Core.Logic.{◌≢◌}
use Prim.Native.Nat.{ℕ, ◌-◌, ◌≤◌, ◌<◌}
use native.Mathlib.Decide.{ℕ_discrete}
use native.Mathlib.Omega.{arith}
use lib.IntN.{ℤ}
use Rattle.theory.specs.Canon.{Maximum, OfMaxima}
use Rattle.orders.specs.Places.{Marks}
use Rattle.ways.specs.Search.{RowsFound}
use Rattle.stars.proofs.Swapping.{Swap, one_row, by_row, swap_marks}

-- marks that undo each other, each row's at a column maximum, are a complete transversal of column maxima
pub of_marks : {n : ℕ} {a : ℕ → ℕ → ℤ} {l ρ σ : ℕ → ℕ} → Marks n ρ σ → ((x : ℕ) → x < n → Maximum n a l x (σ x)) → OfMaxima n a l σ
of_marks w max = record {
  transversal = record { inside = w.column; present = λ x hx. (max x hx).present; apart = λ x y hx hy e. one_row w x y hx hy e };
  maximum = max;
}

-- The shift has come to row k, which has the column that row i had at first, and is to take the column that row m had: k has a maximum
-- there, m is found, and the rows found no later than m have their first columns. All other rows stand at maxima; row i has taken
-- column j, or is about to.
pub record Shifting (n : ℕ) (a : ℕ → ℕ → ℤ) (l : ℕ → ℕ) (i j : ℕ) (σ₀ step ρ σ : ℕ → ℕ) (k m : ℕ) : Type 0 where
  pub marks : Marks n ρ σ
  pub row : k < n
  pub late : i ≤ k
  pub has : σ k ≡ σ₀ i
  pub others : (x : ℕ) → x < n → x ≢ k → Maximum n a l x (σ x)
  pub before : (x : ℕ) → x < i → σ x ≡ σ₀ x
  pub goal : m < n
  pub found : 0 < step m
  pub maximum : Maximum n a l k (σ₀ m)
  pub same : (x : ℕ) → x < n → x ≢ i → 0 < step x → step x ≤ step m → σ x ≡ σ₀ x
  pub first : k ≡ i → σ₀ m ≡ j
  pub taken : k ≢ i → σ i ≡ j

module _ {n : ℕ} {a : ℕ → ℕ → ℤ} {l : ℕ → ℕ} {i j : ℕ} {σ₀ ρ₀ next step queue : ℕ → ℕ} {count : ℕ} (w₀ : Marks n ρ₀ σ₀)
    (ways : RowsFound n a l i σ₀ next step queue count) (hi : i < n) where
  pub shift_start : OfMaxima n a l σ₀ → j < n → Maximum n a l i j → 0 < step (ρ₀ j) → Shifting n a l i j σ₀ step ρ₀ σ₀ i (ρ₀ j)
  shift_start of hj max known = record {
    marks = w₀;
    row = hi;
    late = omega arith;
    has = refl;
    others = λ x hx ne. of.maximum x hx;
    before = λ x h. refl;
    goal = w₀.row j hj;
    found = known;
    maximum = rw (w₀.forth j hj) max;
    same = λ x hx ne h le. refl;
    first = λ e. w₀.forth j hj;
    taken = λ ne. absurd (ne refl);
  }

  module _ {ρ σ : ℕ → ℕ} {k m : ℕ} (s : Shifting n a l i j σ₀ step ρ σ k m) where
    -- the way is not at its end: row m still has its column, and is not row k
    module _ (on : m ≢ i) where
      pub still : σ m ≡ σ₀ m
      still = s.same m s.goal on s.found (omega arith)

      pub not_yet : k ≢ m
      not_yet e = on (one_row w₀ m i s.goal hi (sym still ∙ ap σ (sym e) ∙ s.has))

      pub later : i ≤ m
      later = rw (ways.queued m s.goal s.found) at
          (ways.late (step m - 1) (omega (arith, s.found, ways.counted m s.goal s.found)))

      pub shift_less : step (next m) < step m
      shift_less = ways.nearer m s.goal s.found on

      -- Rows k and m exchange their columns: k stands at a maximum now, m has the column that row i had and is to take that of its next
      -- row, which was found before it. The rows found no later than that one are neither k nor m, so they still have their columns:
      -- k is row i or has lost its own, and m was found later.
      pub shift_next : {ρ' σ' : ℕ → ℕ} → Swap ρ σ ρ' σ' k m → Shifting n a l i j σ₀ step ρ' σ' m (next m)
      shift_next {ρ'} {σ'} swap = record {
        marks = swap_marks s.marks swap s.row s.goal;
        row = s.goal;
        late = later;
        has = swap.right ∙ s.has;
        others = by_row s.marks swap s.row s.goal (λ x y. x ≢ m → Maximum n a l x y)
            (λ ne. rw still s.maximum) (λ ne. absurd (ne refl)) (λ x hx nk nm ne. s.others x hx nk);
        before = λ x h. swap.rest x (omega (arith, s.late)) (omega (arith, later)) ∙ s.before x h;
        goal = (ways.leads m s.goal s.found on).from;
        found = ways.found m s.goal s.found on;
        maximum = (ways.leads m s.goal s.found on).holds;
        same = λ x hx ne h le.
            let old = s.same x hx ne h (omega (arith, shift_less)) in
            swap.rest x (λ e. ne (one_row w₀ x i hx hi (sym old ∙ ap σ e ∙ s.has))) (λ e. omega (arith, ap step e, shift_less)) ∙ old;
        first = λ e. absurd (on e);
        taken = λ ne. elim (ℕ_discrete k i) [
          | yes e ↦ ap σ' (sym e) ∙ swap.left ∙ still ∙ s.first e
          | no nk ↦ swap.rest i (λ e. nk (sym e)) (λ e. on (sym e)) ∙ s.taken nk
        ];
      }

    -- the way is at its end: row k keeps the column that row i had
    module _ (end : m ≡ i) where
      pub shift_maxima : (x : ℕ) → x < n → Maximum n a l x (σ x)
      shift_maxima x hx = elim (ℕ_discrete x k) [
        | yes e ↦ rw (e, s.has) (rw end at s.maximum)
        | no ne ↦ s.others x hx ne
      ]

      pub shift_takes : σ i ≡ j
      shift_takes = elim (ℕ_discrete k i) [
        | yes e ↦ ap σ (sym e) ∙ s.has ∙ ap σ₀ (sym end) ∙ s.first e
        | no ne ↦ s.taken ne
      ]
