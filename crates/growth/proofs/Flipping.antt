-- The way back from an unmarked column to the row that is inserted: each row on the way takes the column that it gives. At each step
-- one column, the open one, waits for a row of the tree that is tight there. Assumes nothing.
use mathlib.Core.Path.{◌≡◌, refl, sym, ◌∙◌, ap}
use mathlib.Core.Logic.{◌≢◌}
use Prim.Native.Nat.{ℕ, ◌+◌, ◌≤◌, ◌<◌}
use native.Mathlib.Decide.{ℕ_discrete}
use native.Mathlib.Omega.{arith}
use lib.Dec.{T}
use lib.IntN.{ℤ}
use Rattle.growth.specs.Growing.{Tight, Marking, WayBack}
use Rattle.orders.proofs.Stores.{Put, after}
use Rattle.theory.specs.Limits.{row_limit}
use Rattle.theory.specs.Totals.{totalℕ}
use Rattle.theory.proofs.Pigeonhole.{choose, choose_yes, choose_no}
use Rattle.theory.proofs.Totals.{total_change}

module _ {n : ℕ} {a : ℕ → ℕ → ℤ} {s : ℕ} {l : ℕ → ℕ} {h : ℕ → ℤ} {ρ κ giver : ℕ → ℕ} {end : ℕ} (w : WayBack n a s l h ρ κ giver end) where
  -- The marks ρ' κ' with the column j open, for which the row i will do. All rows below s have their marks, row i too, which is to
  -- leave its column for j. The rows that joined no later than i are where they were.
  pub record Open (ρ' κ' : ℕ → ℕ) (j i : ℕ) : Type 0 where
    pub inside : j < n
    pub row_inside : i < n
    pub in_tree : T (w.tree i)
    pub tight : Tight n a l h i j
    pub row : (x : ℕ) → x < n → x ≢ j → ρ' x < n → (ρ' x < s) × (κ' (ρ' x) ≡ x) × Tight n a l h (ρ' x) x
    pub column : (y : ℕ) → y < s → (κ' y < n) × (κ' y ≢ j) × (ρ' (κ' y) ≡ y)
    pub ahead : (y : ℕ) → y < s → T (w.tree y) → w.rank y ≤ w.rank i → κ' y ≡ κ y
    pub still : (x : ℕ) → n ≤ ρ' x → n ≤ ρ x
    pub unflipped : ρ' j ≡ ρ j
    pub fresh : i ≢ ρ j

  pub open_start : Open ρ κ end (giver end)
  open_start =
      record {
        inside = w.inside;
        row_inside = w.last.0;
        in_tree = w.last.1;
        tight = w.last.2;
        row = λ x hx ne m. w.marking.row x hx m;
        column = λ y hy.
            let c = w.marking.column y hy in
            (c.0, (λ e. omega (arith, w.free, w.inserted, c.1, ap ρ e)), c.1);
        ahead = λ y hy ty le. refl;
        still = λ x le. le;
        unflipped = refl;
        fresh = omega (arith, w.free, w.last.0);
      }

  module _ {ρ' κ' : ℕ → ℕ} {j i : ℕ} (o : Open ρ' κ' j i) where
    pub before : i ≢ s → i < s
    before ne = omega (arith, w.early i o.row_inside o.in_tree)

    module _ {ρ'' κ'' : ℕ → ℕ} (ne : i ≢ s) (pr : Put ρ' ρ'' j i) (pk : Put κ' κ'' i j) where
      -- row i takes the open column, and the column that it leaves is the open one
      pub open_step : Open ρ'' κ'' (κ' i) (giver (κ' i))
      open_step =
          let hi = before ne in
          let c = o.column i hi in
          let e : κ' i ≡ κ i = o.ahead i hi o.in_tree (omega arith) in
          let g = w.link i hi o.in_tree in
          let m : ρ (κ i) ≡ i = (w.marking.column i hi).1 in
          rw e
          record {
            inside = (w.marking.column i hi).0;
            row_inside = g.0;
            in_tree = g.1;
            tight = g.2;
            row = λ x hx nx.
                after (λ y z. z < n → (z < s) × (κ'' z ≡ y) × Tight n a l h z y) pr x (λ q lt. (hi, pk.at, o.tight))
                (λ nj lt.
                let r = o.row x hx nj lt in
                (r.0, pk.off (ρ' x) (λ q. nx (sym r.1 ∙ ap κ' q ∙ e)) ∙ r.1, r.2));
            column = λ y hy.
                elim (ℕ_discrete y i) [
                  | yes q ↦ rw (q, pk.at) (o.inside, (λ z. c.1 (e ∙ sym z)), pr.at)
                  | no ny ↦
                      let d = o.column y hy in
                      rw (pk.off y ny) (
                        d.0,
                        (λ z. ny (sym d.2 ∙ ap ρ' z ∙ ap ρ' (sym e) ∙ c.2)),
                        pr.off (κ' y) d.1 ∙ d.2,
                      )
                ];
            ahead = λ y hy ty le.
                pk.off y (λ q. omega (arith, g.3, ap w.rank q)) ∙ o.ahead y hy ty (omega (arith, g.3));
            still = λ x.
                after (λ y z. n ≤ z → n ≤ ρ y) pr x (λ q le. absurd (omega (arith, o.row_inside))) (λ nx le. o.still x le);
            unflipped = pr.off (κ i) (λ q. c.1 (e ∙ q)) ∙ ap ρ' (sym e) ∙ c.2 ∙ sym m;
            fresh = λ q. omega (arith, g.3, ap w.rank (q ∙ m));
          }

    pub open_still : {ρ'' : ℕ → ℕ} → Put ρ' ρ'' j s → (x : ℕ) → n ≤ ρ'' x → n ≤ ρ x
    open_still pr x =
        after (λ y z. n ≤ z → n ≤ ρ y) pr x (λ q le. absurd (omega (arith, w.inserted))) (λ nx le. o.still x le)

    -- row s takes the open column: all rows up to s have their marks
    pub open_end : {ρ'' κ'' : ℕ → ℕ} → i ≡ s → Put ρ' ρ'' j s → Put κ' κ'' s j → Marking n a (s + 1) l h ρ'' κ''
    open_end {ρ''} {κ''} e pr pk =
        record {
          row = λ x hx.
              after (λ y z. z < n → (z < s + 1) × (κ'' z ≡ y) × Tight n a l h z y) pr x (λ q lt. (omega arith, pk.at, rw e at o.tight))
              (λ nj lt.
              let r = o.row x hx nj lt in
              (omega (arith, r.0), pk.off (ρ' x) (omega (arith, r.0)) ∙ r.1, r.2));
          column = λ y hy.
              elim (ℕ_discrete y s) [
                | yes q ↦ rw (q, pk.at) (o.inside, pr.at)
                | no ny ↦
                    let d = o.column y (omega arith) in
                    rw (pk.off y ny) (d.0, pr.off (κ' y) d.1 ∙ d.2)
              ];
        }

-- ---- how many places of an array are as they were: the measure of the way back
pub still_same : (ℕ → ℕ) → (ℕ → ℕ) → ℕ
still_same f f' = totalℕ row_limit (λ x. choose (ℕ_discrete (f' x) (f x)) 1 0)

pub same_fewer : (f : ℕ → ℕ) {g g' : ℕ → ℕ} {k v : ℕ} → k < row_limit → Put g g' k v → g k ≡ f k → v ≢ f k → still_same f g' < still_same f g
unfolding still_same
same_fewer f {g} {g'} {k} {v} h p e ne =
    omega (
      arith,
      total_change row_limit (λ x. choose (ℕ_discrete (g x) (f x)) 1 0) (λ x. choose (ℕ_discrete (g' x) (f x)) 1 0) k h
          (λ x hx nx. ap (λ (y : ℕ). choose (ℕ_discrete y (f x)) 1 0) (p.off x nx)),
      choose_yes (ℕ_discrete (g k) (f k)) 1 0 e,
      choose_no (ℕ_discrete (g' k) (f k)) 1 0 (λ q. ne (sym p.at ∙ q)),
    )
