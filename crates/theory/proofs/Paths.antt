-- K: in the least canon from a start, every set of rows above their start leads to a row outside it. From it that some row stands at
-- its start. And 001's criterion: a canon whose rows have paths to rows at their starts is the least. Assumes nothing.
use mathlib.Core.Path.{◌≡◌}
use mathlib.Core.Logic.{◌⊎◌, inl, inr, ◌≢◌}
use Prim.Native.Nat.{ℕ, ◌-◌, ◌≤◌, ◌<◌}
use native.Mathlib.Decide.{ℕ_discrete, dec_lt}
use native.Mathlib.Omega.{arith}
use lib.IntN.{ℤ, pos, ◌+ℤ◌, ℤ_discrete}
use lib.Signed.{◌≤ℤ◌}
use Rattle.theory.specs.Table.{absent, Present}
use Rattle.theory.specs.Canon.{raised, Maximum, OfMaxima, Canon, AtMost, LeastFrom}
use Rattle.theory.specs.Paths.{Leads, Path, itself, onward}
use Rattle.theory.proofs.Pigeonhole.{choose, choose_yes, exists, dec_exists, dec_both, dec_not}
use Rattle.theory.proofs.Signed.{raised_le_ud, ud_raised_le, raised_lt_ud}
use Rattle.theory.proofs.Duality.{maxima_everywhere}

module _ (n : ℕ) (a : ℕ → ℕ → ℤ) where
  -- row k holds a maximum in the column of row i, as row i does: present, and raised as high as row i's order
  abbrev Tied : (ℕ → ℕ) → (ℕ → ℕ) → ℕ → ℕ → Type 0
  Tied l σ i k = Present (a k (σ i)) × (raised n a l k (σ i) ≡ raised n a l i (σ i))

  dec_tied : (l σ : ℕ → ℕ) (i k : ℕ) → Dec (Tied l σ i k)
  dec_tied l σ i k = dec_both (dec_not (ℤ_discrete (a k (σ i)) absent)) (ℤ_discrete (raised n a l k (σ i)) (raised n a l i (σ i)))

  tied_leads : {l σ : ℕ → ℕ} {i k : ℕ} → OfMaxima n a l σ → i < n → k < n → k ≢ i → Tied l σ i k → Leads n (Maximum n a l) σ i k
  tied_leads c hi hk ne t =
      record {
        from = hi;
        column = c.transversal.inside _ hi;
        to = hk;
        another = ne;
        holds = record { present = t.0; unexceeded = λ x hx p. rw t.1 ((c.maximum _ hi).unexceeded x hx p) };
      }

  -- K (001, proposition I). If no row of X were tied to a row outside X, all of X could be lowered by 1: the comparisons between X
  -- and the rest are strict, those within X and within the rest do not change. That would be a canon, still nowhere below the
  -- start, and less than the least.
  module _ {start l σ : ℕ → ℕ} (lf : LeastFrom n a start l) (c : OfMaxima n a l σ) (X : ℕ → Type 0) (dec : (i : ℕ) → Dec (X i))
      (above : (i : ℕ) → X i → (i < n) × (start i < l i)) where
    abbrev Out : ℕ → ℕ → Type 0
    Out i k = (X i × (X k → ⊥)) × Tied l σ i k

    dec_out : (i k : ℕ) → Dec (Out i k)
    dec_out i k = dec_both (dec_both (dec i) (dec_not (dec k))) (dec_tied l σ i k)

    abbrev lowered : ℕ → ℕ
    lowered i = choose (dec i) (l i - 1) (l i)

    module _ (none : (i k : ℕ) → i < n → k < n → Out i k → ⊥) where
      lowered_le : (i k : ℕ) → i < n → k < n → Present (a k (σ i)) → raised n a lowered k (σ i) ≤ℤ raised n a lowered i (σ i)
      lowered_le i k hi hk p = go (dec i) (dec k)
        where
          le : raised n a l k (σ i) ≤ℤ raised n a l i (σ i)
          le = (c.maximum i hi).unexceeded k hk p

          go : (d : Dec (X i)) (e : Dec (X k)) → (a k (σ i) +ℤ pos (choose e (l k - 1) (l k))) ≤ℤ (a i (σ i) +ℤ pos (choose d (l i - 1) (l i)))
          go (yes x) (yes y) =
              ud_raised_le (a k (σ i)) (a i (σ i)) (l k - 1) (l i - 1)
              (omega (arith, raised_le_ud (a k (σ i)) (a i (σ i)) (l k) (l i) le, (above i x).1, (above k y).1))
          go (yes x) (no y) =
              ud_raised_le (a k (σ i)) (a i (σ i)) (l k) (l i - 1)
              (omega (arith, raised_lt_ud (a k (σ i)) (a i (σ i)) (l k) (l i) le (λ e. none i k hi hk ((x, y), (p, e))), (above i x).1))
          go (no x) (yes y) =
              ud_raised_le (a k (σ i)) (a i (σ i)) (l k - 1) (l i) (omega (arith, raised_le_ud (a k (σ i)) (a i (σ i)) (l k) (l i) le))
          go (no x) (no y) = le

      lowered_canon : Canon n a lowered
      lowered_canon =
          record {
            columns = σ;
            of_maxima = record {
              transversal = c.transversal;
              maximum = λ i hi. record { present = c.transversal.present i hi; unexceeded = λ k hk p. lowered_le i k hi hk p };
            };
          }

      lowered_start : AtMost n start lowered
      lowered_start i hi = go (dec i)
        where
          go : (d : Dec (X i)) → start i ≤ choose d (l i - 1) (l i)
          go (yes x) = omega (arith, (above i x).1)
          go (no x) = lf.from_start i hi

      lowered_less : (i : ℕ) → X i → ⊥
      lowered_less i x =
          omega (arith, lf.least lowered lowered_canon lowered_start i (above i x).0, choose_yes (dec i) (l i - 1) (l i) x, (above i x).1)

    pub leads_out : (x : ℕ) → X x → (i k : ℕ) × X i × (X k → ⊥) × Leads n (Maximum n a l) σ i k
    leads_out x hx = go (exists (λ i. (k : ℕ) × (k < n) × Out i k) (λ i. dec_exists (λ k. Out i k) (dec_out i) n) n)
      where
        go : ((i : ℕ) × (i < n) × ((k : ℕ) × (k < n) × Out i k)) ⊎ ((i : ℕ) → i < n → ((k : ℕ) × (k < n) × Out i k) → ⊥)
            → (i k : ℕ) × X i × (X k → ⊥) × Leads n (Maximum n a l) σ i k
        go (inl (i, hi, (k, hk, o))) = (i, k, o.0.0, o.0.1, tied_leads c hi hk (λ e. o.0.1 (rw e o.0.0)) o.1)
        go (inr none) = absurd (lowered_less (λ i k hi hk o. none i hi (k, hk, o)) x hx)

  -- "At least one of its additions is 0": some row of the least canon stands at its start, for else all rows could be lowered
  pub some_at_start : {start l : ℕ → ℕ} → LeastFrom n a start l → 0 < n → (i : ℕ) × (i < n) × (l i ≡ start i)
  some_at_start {start} {l} lf pos-n = go (exists (λ i. l i ≡ start i) (λ i. ℕ_discrete (l i) (start i)) n)
    where
      go : ((i : ℕ) × (i < n) × (l i ≡ start i)) ⊎ ((i : ℕ) → i < n → l i ≡ start i → ⊥) → (i : ℕ) × (i < n) × (l i ≡ start i)
      go (inl w) = w
      go (inr none) =
          let (i, k, hi, out, lead) =
          leads_out lf lf.canon.of_maxima (λ i. i < n) (λ i. dec_lt i n) (λ i hi. (hi, omega (arith, lf.from_start i hi, none i hi))) 0 pos-n in
          absurd (out lead.to)

  -- ---- paths
  -- a row that holds a maximum in the column of row i, be it row i itself, takes its path on
  pub path_by : {l σ : ℕ → ℕ} {i k m : ℕ} → i < n → σ i < n → k < n → Maximum n a l k (σ i) → Path n (Maximum n a l) σ k m
      → Path n (Maximum n a l) σ i m
  path_by {l} {σ} {i} {k} {m} hi column hk max p = go (ℕ_discrete k i)
    where
      go : Dec (k ≡ i) → Path n (Maximum n a l) σ i m
      go (yes e) = rw e at p
      go (no ne) = onward (record { from = hi; column = column; to = hk; another = ne; holds = max }) p

  -- row i has a path to a row at its start
  abbrev pub Depends : (ℕ → ℕ) → (ℕ → ℕ) → (ℕ → ℕ) → ℕ → Type 0
  Depends start l σ i = (k : ℕ) × (l k ≡ start k) × Path n (Maximum n a l) σ i k

  -- Proposition VII of 001: if every row has a path to a row at its start (its levels exhaust the rows), the canon is the least from
  -- the start. For under any canon m from the start σ consists of column maxima too (C2), so along a path m − l does not fall, and at
  -- its end it is not negative.
  pub paths_least : {start l σ : ℕ → ℕ} → OfMaxima n a l σ → AtMost n start l → ((i : ℕ) → i < n → Depends start l σ i) → LeastFrom n a start l
  paths_least {start} {l} {σ} c above depends =
      record {
        canon = record { columns = σ; of_maxima = c };
        from_start = above;
        least = λ m cm from i hi.
            let (k, e, p) = depends i hi in
            below m (maxima_everywhere n a c cm) from p e hi;
      }
    where
      below : (m : ℕ → ℕ) → OfMaxima n a m σ → AtMost n start m → {i k : ℕ} → Path n (Maximum n a l) σ i k → l k ≡ start k → i < n → l i ≤ m i
      below m cm from (itself i) e hi = omega (arith, e, from i hi)
      below m cm from (onward {i = i} {k = k} s p) e hi =
          omega (
            arith,
            below m cm from p e s.to,
            raised_le_ud (a k (σ i)) (a i (σ i)) (m k) (m i) ((cm.maximum i hi).unexceeded k s.to s.holds.present),
            raised_le_ud (a i (σ i)) (a k (σ i)) (l i) (l k) (s.holds.unexceeded i hi (c.transversal.present i hi)),
          )
