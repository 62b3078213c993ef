-- One row of a round: raised to the head of its column. Assumes nothing.
use mathlib.Core.Path.{◌≡◌, refl, sym}
use mathlib.Core.Bool.{Bool, true, false}
use mathlib.Core.Logic.{◌⊎◌, inl, inr}
use Prim.Native.Nat.{ℕ, ◌+◌, ◌-◌, ◌*◌, ◌≤◌, ◌<◌}
use native.Mathlib.Nat.{mul-le-mul_right}
use native.Mathlib.Decide.{ℕ_discrete}
use native.Mathlib.Omega.{arith}
use lib.IntN.{ℤ, pos, ◌+ℤ◌}
use lib.Signed.{◌≤ℤ◌}
use Rattle.theory.specs.Table.{Present, WithinLimit}
use Rattle.theory.specs.Canon.{Transversal, raised, OfMaxima, AtMost, Head}
use Rattle.theory.proofs.Signed.{up, dn, signed, raised_le_ud, ud_raised_le, raised_eq_ud}
use Rattle.theory.proofs.Duality.{under_head}
use Rattle.orders.specs.Places.{ceiling}
use Rattle.orders.proofs.Entries.{clash}
use Rattle.orders.proofs.Stores.{Put}
use Rattle.raising.specs.Rounds.{Round}

-- no addition passes the ceiling in a round that has it ample
pub round_under : {limit n k : ℕ} {a : ℕ → ℕ → ℤ} {σ l next : ℕ → ℕ} {e : Bool} → Round limit n a σ l k e next → k ≤ n
    → ((i : ℕ) → i < n → l i + n * (2 * limit) ≤ ceiling) → (i : ℕ) → i < n → next i ≤ ceiling
round_under {limit} {n} r le ample i hi =
    omega (arith, r.near (ceiling - n * (2 * limit)) (λ x hx. omega (arith, ample x hx)) i hi, mul-le-mul_right (2 * limit) le, ample i hi)

-- Row k is raised by v, which takes its starred order to the head of its column: from row x, say. So row k is not lowered; no order
-- of the column passes it; under a canon m whose column maxima are starred, m k is at least what row x asks for, which is v or more;
-- and v is at most x's addition and the difference of two orders.
module _ (limit n : ℕ) (a : ℕ → ℕ → ℤ) (σ l : ℕ → ℕ) (k : ℕ) (t : Transversal n a σ) (w : WithinLimit limit n a) (hk : k < n) where
  module _ {next : ℕ → ℕ} (v : ℕ) (h : Head n a next (σ k) (a k (σ k) +ℤ pos v)) where
    pub not_lowered : next k ≤ v
    not_lowered =
        omega (arith, raised_le_ud (a k (σ k)) (a k (σ k)) (next k) v (under_head n a h k hk (t.present k hk)))

    -- the head, as row x has it
    tied : up (a k (σ k)) + v + dn (a h.row (σ k)) ≡ up (a h.row (σ k)) + next h.row + dn (a k (σ k))
    tied = raised_eq_ud (a k (σ k)) (a h.row (σ k)) v (next h.row) h.is

    not_past : (m : ℕ → ℕ) → OfMaxima n a m σ → AtMost n next m → v ≤ m k
    not_past m c le =
        omega (
          arith,
          tied,
          le h.row h.inside,
          raised_le_ud (a h.row (σ k)) (a k (σ k)) (m h.row) (m k) ((c.maximum k hk).unexceeded h.row h.inside h.maximum.present),
        )

    not_far : v ≤ next h.row + 2 * limit
    not_far =
        let p = w k (σ k) hk (t.inside k hk) (t.present k hk) in
        let q = w h.row (σ k) h.inside (t.inside k hk) h.maximum.present in
        omega (arith, signed, tied, p.low, q.high)

    pub round_step : {next' : ℕ → ℕ} {e e' : Bool} → Round limit n a σ l k e next → Put next next' k v
        → (e' ≡ true → (e ≡ true) × (v ≡ next k)) → (e' ≡ false → (e ≡ false) ⊎ (next k < v)) → Round limit n a σ l (k + 1) e' next'
    round_step {next'} {e} {e'} r put same other =
        record {
          grows = λ i hi. omega (arith, r.grows i hi, raises i hi);
          reaches = λ i x hi hx p. topped i x hi hx p (ℕ_discrete i k);
          below = λ m c le i hi. under m c (r.below m c le) i hi (ℕ_discrete i k);
          near = λ b le i hi. close b (r.near b le) i hi (ℕ_discrete i k);
          still = λ q i hi. rest (same q) i hi (ℕ_discrete i k);
          moved = λ q. elim (other q) [
            | inl f ↦ let (i, hi, lt) = r.moved f in (i, hi, omega (arith, raises i hi))
            | inr lt ↦ (k, hk, omega (arith, r.grows k hk, put.at))
          ];
        }
      where
        raises : (i : ℕ) → i < n → next i ≤ next' i
        raises i hi =
            elim (ℕ_discrete i k) [
              | yes q ↦ rw q (omega (arith, not_lowered, put.at))
              | no ne ↦ omega (arith, put.off i ne)
            ]

        topped : (i x : ℕ) → i < k + 1 → x < n → Present (a x (σ i)) → Dec (i ≡ k) → raised n a l x (σ i) ≤ℤ raised n a next' i (σ i)
        topped i x hi hx p (yes q) = rw q (top (rw q at p))
          where
            top : Present (a x (σ k)) → raised n a l x (σ k) ≤ℤ raised n a next' k (σ k)
            top p =
                ud_raised_le (a x (σ k)) (a k (σ k)) (l x) (next' k)
                (omega (arith, put.at, r.grows x hx, raised_le_ud (a x (σ k)) (a k (σ k)) (next x) v (under_head n a h x hx p)))
        topped i x hi hx p (no ne) = rw (put.off i ne) (r.reaches i x (omega arith) hx p)

        under : (m : ℕ → ℕ) → OfMaxima n a m σ → AtMost n next m → (i : ℕ) → i < n → Dec (i ≡ k) → next' i ≤ m i
        under m c le i hi (yes q) = rw q (omega (arith, put.at, not_past m c le))
        under m c le i hi (no ne) = omega (arith, put.off i ne, le i hi)

        close : (b : ℕ) → ((i : ℕ) → i < n → next i ≤ b + k * (2 * limit)) → (i : ℕ) → i < n → Dec (i ≡ k) → next' i ≤ b + (k + 1) * (2 * limit)
        close b le i hi (yes q) = rw q (omega (arith, put.at, not_far, le h.row h.inside))
        close b le i hi (no ne) = omega (arith, put.off i ne, le i hi)

        rest : (e ≡ true) × (v ≡ next k) → (i : ℕ) → i < n → Dec (i ≡ k) → next' i ≡ l i
        rest f i hi (yes q) = rw q (omega (arith, put.at, f.1, r.still f.0 k hk))
        rest f i hi (no ne) = omega (arith, put.off i ne, r.still f.0 i hi)

    -- the two ways: the row is raised, or stands there already
    pub round_raised : {next' : ℕ → ℕ} {e : Bool} → Round limit n a σ l k e next → Put next next' k v → next k < v
        → Round limit n a σ l (k + 1) false next'
    round_raised r put lt = round_step r put (λ q. clash q refl) (λ q. inr lt)

    pub round_kept : {e : Bool} → Round limit n a σ l k e next → v ≤ next k → Round limit n a σ l (k + 1) e next
    round_kept r le =
        let e : v ≡ next k = omega (arith, not_lowered) in
        round_step r (record { at = sym e; off = λ x ne. refl }) (λ q. (q, e)) (λ q. inl q)
