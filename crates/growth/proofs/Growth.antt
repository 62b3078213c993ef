-- The two lemmas that carry the growing: G1, a rise of the tree passes no canon, and G2, a tree with no way out means that there is
-- no complete transversal. Assumes nothing.
use mathlib.Core.Path.{◌≡◌, refl, ap}
use mathlib.Core.Bool.{Bool, true, false}
use Prim.Native.Nat.{ℕ, zero, suc, ◌+◌, ◌≤◌, ◌<◌}
use native.Mathlib.Decide.{dec_le, dec_lt}
use native.Mathlib.Omega.{arith}
use lib.Dec.{T}
use lib.IntN.{ℤ, pos, ◌+ℤ◌}
use lib.Signed.{◌≤ℤ◌}
use Rattle.theory.specs.Table.{Present}
use Rattle.theory.specs.Canon.{Transversal, OfMaxima, AtMost}
use Rattle.theory.proofs.Pigeonhole.{closed_onto, dec_flag, dec_both}
use Rattle.theory.proofs.Signed.{plus, signed}
use Rattle.growth.specs.Growing.{Tight, Marking, Growing}

-- by the value of a flag
pub by_flag : {C : Type 0} (b : Bool) → (b ≡ true → C) → (b ≡ false → C) → C
by_flag true f g = f refl
by_flag false f g = g refl

pub flag_set : {b : Bool} → b ≡ true → T b
flag_set e = rw e tt

pub flag_is : (b : Bool) → T b → b ≡ true
flag_is true t = refl
flag_is false t = absurd t

-- a flag is not both set and not set
pub flag_clash : {C : Type 0} {b : Bool} → T b → b ≡ false → C
flag_clash t e = absurd (rw e at t)

-- The tree of an insertion of row s: the rows in it, all of them inserted but s, the columns reached, and for each reached column
-- a giver, a row of the tree that is tight there and joined the tree before the column's own row did.
pub record Tree (n : ℕ) (a : ℕ → ℕ → ℤ) (s : ℕ) (l : ℕ → ℕ) (h : ℕ → ℤ) (ρ : ℕ → ℕ) (tree reached : ℕ → Bool) (giver : ℕ → ℕ) : Type 0 where
  pub rank : ℕ → ℕ
  pub root : T (tree s)
  pub early : (i : ℕ) → i < n → T (tree i) → i ≤ s
  pub row : (j : ℕ) → j < n → T (reached j) → (ρ j < n) × T (tree (ρ j))
  pub column : (j : ℕ) → j < n → ρ j < n → T (tree (ρ j)) → T (reached j)
  pub gives : (j : ℕ) → j < n → T (reached j)
      → (giver j < n) × T (tree (giver j)) × Tight n a l h (giver j) j × (rank (giver j) < rank (ρ j))

module _ {n : ℕ} {a : ℕ → ℕ → ℤ} {s : ℕ} {l : ℕ → ℕ} {h : ℕ → ℤ} {ρ κ : ℕ → ℕ} {tree reached : ℕ → Bool} {giver : ℕ → ℕ}
    (marking : Marking n a s l h ρ κ) (t : Tree n a s l h ρ tree reached giver) where
  -- What G1 and G2 have in common. τ takes the rows of a set X of the tree to reached columns, no two to the same; and where a row
  -- of the tree is tight at the column of a row of X, it is in X too. Then i ↦ the row marked in column τ i takes X into X and, by
  -- P1, onto X. So each row i of X is marked in the column τ y of a row y of X, whose giver is in X and joined before i: X is empty.
  module _ (X : ℕ → Type 0) (dec : (i : ℕ) → Dec (X i)) (below : (i : ℕ) → X i → i < n) (τ : ℕ → ℕ)
      (inside : (i : ℕ) → X i → τ i < n) (apart : (i k : ℕ) → X i → X k → τ i ≡ τ k → i ≡ k)
      (reaches : (i : ℕ) → X i → T (reached (τ i)))
      (spreads : (i x : ℕ) → X i → x < n → T (tree x) → Tight n a l h x (τ i) → X x) where
    next : (i : ℕ) → X i → X (ρ (τ i))
    next i o =
        let r = t.row (τ i) (inside i o) (reaches i o) in
        spreads i (ρ (τ i)) o r.0 r.1 (marking.row (τ i) (inside i o) r.0).2

    next_apart : (i k : ℕ) → X i → X k → ρ (τ i) ≡ ρ (τ k) → i ≡ k
    next_apart i k o p e =
        let r = marking.row (τ i) (inside i o) (t.row (τ i) (inside i o) (reaches i o)).0 in
        let q = marking.row (τ k) (inside k p) (t.row (τ k) (inside k p) (reaches k p)).0 in
        apart i k o p (cc (ap κ e))

    none_below : (b i : ℕ) → t.rank i < b → X i → ⊥
    none_below zero i lt o = omega arith
    none_below (suc b) i lt o =
        let (y, oy, e) = closed_onto n X dec (λ i. ρ (τ i)) below next next_apart i o in
        let g = t.gives (τ y) (inside y oy) (reaches y oy) in
        none_below b (giver (τ y)) (omega (arith, g.3, ap t.rank e)) (spreads y (giver (τ y)) oy g.0 g.1 g.2)

    pub rootless : (i : ℕ) → X i → ⊥
    rootless i o = none_below (suc (t.rank i)) i (omega arith) o

  -- G2: where every present place of the tree's rows lies in a reached column, there is no complete transversal. X is the tree.
  pub stuck : s < n → ((i j : ℕ) → i < n → j < n → T (tree i) → reached j ≡ false → Present (a i j) → ⊥) → (σ : ℕ → ℕ) → Transversal n a σ → ⊥
  stuck hs walled σ tr =
      rootless (λ i. (i < n) × T (tree i)) (λ i. dec_both (dec_lt i n) (dec_flag (tree i))) (λ i o. o.0) σ (λ i o. tr.inside i o.0)
      (λ i k o p. tr.apart i k o.0 p.0)
      (λ i o.
      by_flag (reached (σ i)) flag_set
      (λ e. absurd (walled i (σ i) o.0 (tr.inside i o.0) o.1 e (tr.present i o.0))))
      (λ i x o hx tx tight. (hx, tx)) s (hs, t.root)

-- G1: where the additions are below every canon from the start, they still are when the tree is raised by δ, if no place of the
-- tree's rows in an unset column passes its head by that. X is the rows of the tree that would pass the canon m.
module _ {n : ℕ} {a : ℕ → ℕ → ℤ} {start : ℕ → ℕ} {s : ℕ} {l : ℕ → ℕ} {h : ℕ → ℤ} {ρ κ : ℕ → ℕ} {tree reached : ℕ → Bool} {giver : ℕ → ℕ}
    (st : Growing n a start s l h ρ κ) (t : Tree n a s l h ρ tree reached giver) (δ : ℕ)
    (clear : (i j : ℕ) → i < n → j < n → T (tree i) → reached j ≡ false → Present (a i j) → (a i j +ℤ pos (l i + δ)) ≤ℤ h j)
    (m σ : ℕ → ℕ) (of : OfMaxima n a m σ) (from : AtMost n start m) where
  low : AtMost n l m
  low = st.least m (record { columns = σ; of_maxima = of }) from

  -- the canon's head of a column is not below h
  head : (i : ℕ) → i < n → h (σ i) ≤ℤ (a i (σ i) +ℤ pos (m i))
  head i hi =
      let hj = of.transversal.inside i hi in
      elim (dec_lt (ρ (σ i)) n) [
        | yes hk ↦
            let k = ρ (σ i) in
            let tight = (st.marking.row (σ i) hj hk).2 in
            omega (
              arith,
              signed,
              tight.is,
              (of.maximum i hi).unexceeded k hk tight.present,
              low k hk,
              plus (a k (σ i)) (pos (l k)),
              plus (a k (σ i)) (pos (m k)),
            )
        | no nk ↦
            let f = st.first (σ i) hj (omega arith) in
            let k = f.row in
            omega (
              arith,
              signed,
              f.is,
              (of.maximum i hi).unexceeded k f.inside f.maximum.present,
              from k f.inside,
              plus (a k (σ i)) (pos (start k)),
              plus (a k (σ i)) (pos (m k)),
            )
      ]

  abbrev Over : ℕ → Type 0
  Over i = ((i < n) × T (tree i)) × (m i < l i + δ)

  over_reaches : (i : ℕ) → Over i → T (reached (σ i))
  over_reaches i o =
      let hi = o.0.0 in
      by_flag (reached (σ i)) flag_set
      (λ e.
      absurd (omega (
        arith,
        signed,
        head i hi,
        clear i (σ i) hi (of.transversal.inside i hi) o.0.1 e (of.transversal.present i hi),
        plus (a i (σ i)) (pos (m i)),
        plus (a i (σ i)) (pos (l i + δ)),
      )))

  over_spreads : (i x : ℕ) → Over i → x < n → T (tree x) → Tight n a l h x (σ i) → Over x
  over_spreads i x o hx tx tight =
      let hi = o.0.0 in
      let lt : m x < l x + δ = omega (
        arith,
        signed,
        tight.is,
        (of.maximum i hi).unexceeded x hx tight.present,
        st.under i (σ i) hi (of.transversal.inside i hi) (of.transversal.present i hi),
        plus (a i (σ i)) (pos (m i)),
        plus (a i (σ i)) (pos (l i)),
        plus (a x (σ i)) (pos (m x)),
        plus (a x (σ i)) (pos (l x)),
      ) in
      ((hx, tx), lt)

  pub growth : (i : ℕ) → i < n → T (tree i) → l i + δ ≤ m i
  growth i hi ti =
      elim (dec_le (l i + δ) (m i)) [
        | yes p ↦ p
        | no q ↦
            absurd (rootless st.marking t Over (λ i. dec_both (dec_both (dec_lt i n) (dec_flag (tree i))) (dec_lt (m i) (l i + δ))) (λ i o. o.0.0)
            σ (λ i o. of.transversal.inside i o.0.0) (λ i k o p. of.transversal.apart i k o.0.0 p.0.0) over_reaches over_spreads i
            ((hi, ti), omega arith))
      ]
