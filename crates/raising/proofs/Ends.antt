-- Where the rounds lead. Rows that stand as in the least canon from the start are final. While not all are, each round makes one more
-- final (K); so after n rounds the last has changed nothing, or the stars given have not the greatest sum. Assumes nothing.
use mathlib.Core.Path.{◌≡◌, refl, sym}
use mathlib.Core.Bool.{Bool, true, false}
use mathlib.Core.List.{List}
use mathlib.Core.Logic.{◌⊎◌, inl, inr}
use Prim.Native.Nat.{ℕ, ◌+◌, ◌*◌, ◌≤◌, ◌<◌}
use native.Mathlib.Nat.{mul-le-mul_left, mul-le-mul_right}
use native.Mathlib.Decide.{ℕ_discrete, dec_lt}
use native.Mathlib.Omega.{arith}
use lib.IntN.{ℤ}
use Rattle.std.specs.Prelude.{Some}
use Rattle.std.specs.Bool.{then_some}
use Rattle.theory.specs.Totals.{totalℕ}
use Rattle.theory.specs.Limits.{row_limit, order_limit, addition_limit}
use Rattle.theory.specs.Lists.{nums}
use Rattle.theory.specs.Table.{entry}
use Rattle.theory.specs.Canon.{AtMost, Transversal, OfMaxima, LeastFrom, Greatest}
use Rattle.theory.proofs.Pigeonhole.{choose, choose_yes, choose_no, dec_both}
use Rattle.theory.proofs.Totals.{total_ge, total_lt, total_bound}
use Rattle.theory.proofs.Signed.{raised_le_ud}
use Rattle.theory.proofs.Duality.{greatest_maxima, maxima_everywhere}
use Rattle.theory.proofs.Paths.{leads_out, some_at_start}
use Rattle.orders.specs.Places.{ceiling}
use Rattle.orders.specs.Held.{LeastBy}
use Rattle.raising.specs.Climbed.{Climbed}
use Rattle.raising.specs.Rounds.{Round}

-- 1 at the rows of l that are final, final additions being f
abbrev pub final : (ℕ → ℕ) → (ℕ → ℕ) → ℕ → ℕ
final f l i = choose (ℕ_discrete (l i) (f i)) 1 0

-- how high additions are at most after r rounds from a start of at most b
abbrev pub height : ℕ → ℕ → ℕ → ℕ → ℕ
height limit b n r = b + r * (n * (2 * limit))

module _ (limit b n : ℕ) (a : ℕ → ℕ → ℤ) (σ start : ℕ → ℕ) where
  -- additions l after r rounds, with which another round begins: bounded, nowhere below the start and nowhere above a canon from it
  -- that has its column maxima at the stars, and all final or more than r of them
  pub record BeforeRound (r : ℕ) (l : ℕ → ℕ) : Type 0 where
    pub bounded : (i : ℕ) → i < n → l i ≤ height limit b n r
    pub from_start : AtMost n start l
    pub below : (m : ℕ → ℕ) → OfMaxima n a m σ → AtMost n start m → AtMost n l m
    pub progress : (f : ℕ → ℕ) → LeastFrom n a start f → OfMaxima n a f σ → ((i : ℕ) → i < n → l i ≡ f i) ⊎ (r < totalℕ n (final f l))

  -- the same where a round ends, and whether it has changed nothing
  pub record AfterRound (r : ℕ) (ended : Bool) (l : ℕ → ℕ) : Type 0 where
    pub bounded : (i : ℕ) → i < n → l i ≤ height limit b n r
    pub from_start : AtMost n start l
    pub below : (m : ℕ → ℕ) → OfMaxima n a m σ → AtMost n start m → AtMost n l m
    pub done : ended ≡ true → OfMaxima n a l σ
    pub more : ended ≡ false → (f : ℕ → ℕ) → LeastFrom n a start f → OfMaxima n a f σ → r < totalℕ n (final f l)

  -- some row of the least canon stands at its start: so one row is final before the first round
  pub starts : ((i : ℕ) → i < n → start i ≤ b) → BeforeRound 0 start
  starts low =
      record {
        bounded = λ i hi. omega (arith, low i hi);
        from_start = λ i hi. omega arith;
        below = λ m c from. from;
        progress = λ f s c. one f s (dec_lt 0 n);
      }
    where
      one : (f : ℕ → ℕ) → LeastFrom n a start f → Dec (0 < n) → ((i : ℕ) → i < n → start i ≡ f i) ⊎ (0 < totalℕ n (final f start))
      one f s (yes p) =
          let (i, hi, e) = some_at_start n a s p in
          inr (omega (arith, total_ge n (final f start) i hi, choose_yes (ℕ_discrete (start i) (f i)) 1 0 (sym e)))
      one f s (no p) = inl (λ i hi. absurd (p (omega arith)))

  -- A round that changes something makes one more row final. For a row that it changes was not final; so K, on the rows not final,
  -- gives such a row i that leads to a final row k; and the round raises row i to where row k takes it.
  module _ {r : ℕ} {l next : ℕ → ℕ} {e : Bool} (s : BeforeRound r l) (w : Round limit n a σ l n e next) where
    module _ (f : ℕ → ℕ) (sf : LeastFrom n a start f) (c : OfMaxima n a f σ) where
      under : AtMost n next f
      under = w.below f c (s.below f c sf.from_start)

      final_more : (i : ℕ) → i < n → final f l i ≤ final f next i
      final_more i hi = go (ℕ_discrete (l i) (f i)) (ℕ_discrete (next i) (f i))
        where
          go : (d : Dec (l i ≡ f i)) (d' : Dec (next i ≡ f i)) → choose d 1 0 ≤ choose d' 1 0
          go (yes p) (yes q) = omega arith
          go (yes p) (no q) = absurd (q (omega (arith, under i hi, w.grows i hi)))
          go (no p) d' = omega arith

      step : (x : ℕ) → x < n → l x < f x → totalℕ n (final f l) < totalℕ n (final f next)
      step x hx lt =
          let (i, k, xi, out, v) =
          leads_out n a sf c (λ i. (i < n) × (l i < f i)) (λ i. dec_both (dec_lt i n) (dec_lt (l i) (f i)))
          (λ i o. (o.0, omega (arith, o.1, s.from_start i o.0))) x (hx, lt) in
          let lk : f k ≤ l k = outside k v.to out (dec_lt (l k) (f k)) in
          let is : next i ≡ f i = omega (
            arith,
            under i xi.0,
            raised_le_ud (a i (σ i)) (a k (σ i)) (f i) (f k) (v.holds.unexceeded i xi.0 (c.transversal.present i xi.0)),
            raised_le_ud (a k (σ i)) (a i (σ i)) (l k) (next i) (w.reaches i k xi.0 v.to v.holds.present),
          ) in
          total_lt n (final f l) (final f next) i final_more xi.0
          (omega (
            arith,
            choose_yes (ℕ_discrete (next i) (f i)) 1 0 is,
            choose_no (ℕ_discrete (l i) (f i)) 1 0 (λ z. omega (arith, xi.1)),
          ))
        where
          outside : (k : ℕ) → k < n → ((k < n) × (l k < f k) → ⊥) → Dec (l k < f k) → f k ≤ l k
          outside k hk out (yes lt) = absurd (out (hk, lt))
          outside k hk out (no ge) = omega arith

    pub one_round : Transversal n a σ → AfterRound (r + 1) e next
    one_round t =
        record {
          bounded = λ i hi. omega (arith, w.near (height limit b n r) s.bounded i hi);
          from_start = λ i hi. omega (arith, s.from_start i hi, w.grows i hi);
          below = λ m c from. w.below m c (s.below m c from);
          done = λ q. record {
            transversal = t;
            maximum = λ i hi. record {
              present = t.present i hi;
              unexceeded = λ k hk p. rw (w.still q k hk) (w.reaches i k hi hk p);
            };
          };
          more = λ q f sf c. go q f sf c (s.progress f sf c);
        }
      where
        go : e ≡ false → (f : ℕ → ℕ) → LeastFrom n a start f → OfMaxima n a f σ → ((i : ℕ) → i < n → l i ≡ f i) ⊎ (r < totalℕ n (final f l))
            → r + 1 < totalℕ n (final f next)
        go q f sf c (inl all) =
            let (i, hi, lt) = w.moved q in
            absurd (omega (arith, all i hi, under f sf c i hi))
        go q f sf c (inr many) =
            let (i, hi, lt) = w.moved q in
            omega (arith, step f sf c i hi (omega (arith, under f sf c i hi)))

  module _ {r : ℕ} {e : Bool} {l : ℕ → ℕ} (w : AfterRound r e l) where
    -- another round
    pub goes_on : e ≡ false → BeforeRound r l
    goes_on q = record { bounded = w.bounded; from_start = w.from_start; below = w.below; progress = λ f sf c. inr (w.more q f sf c) }

    -- A round that changed nothing leaves a canon with its column maxima at the stars. So (C2) every canon has them there, and none
    -- from the start has a smaller addition.
    pub ends : e ≡ true → LeastFrom n a start l
    ends q =
        record {
          canon = record { columns = σ; of_maxima = w.done q };
          from_start = w.from_start;
          least = λ m c from. w.below m (maxima_everywhere n a (w.done q) c) from;
        }

    -- after n rounds more than n rows would be final
    pub fails : e ≡ false → n ≤ r → (f : ℕ → ℕ) → LeastFrom n a start f → Greatest n a σ → ⊥
    fails q le f sf g =
        omega (arith, w.more q f sf (greatest_maxima n a sf.canon g), total_bound n 1 (final f l) (λ i hi. one (ℕ_discrete (l i) (f i))))
      where
        one : {i : ℕ} → (d : Dec (l i ≡ f i)) → choose d 1 0 ≤ 1
        one (yes p) = omega arith
        one (no p) = omega arith

-- ---- at the border
-- one round more than there are rows stays under the ceiling
height_low : (n r : ℕ) → n ≤ row_limit → r ≤ n + 1 → height order_limit addition_limit n r ≤ ceiling
height_low n r small le =
    let few : r ≤ row_limit + 1 = omega arith in
    let low : n * (2 * order_limit) ≤ row_limit * (2 * order_limit) = omega arith in
    omega (arith, mul-le-mul_right (n * (2 * order_limit)) few, mul-le-mul_left (row_limit + 1) low)

-- The rounds are over when one changed nothing, or n have been made.
module _ {t : List ℤ} {n r : ℕ} {start column_of : List ℕ} (l : List ℕ) {e : Bool} (small : n ≤ row_limit) (le : r ≤ n + 1)
    (w : AfterRound order_limit addition_limit n (entry t n) (nums column_of) (nums start) r e (nums l)) where
  pub climbed_ended : e ≡ true → Climbed t n start column_of (Some l)
  climbed_ended q = record { least = λ m f. let same : l ≡ m = cc in rw (sym same) least; exceeded = λ f. cc }
    where
      least : LeastBy t n (nums start) l column_of
      least =
          record {
            least = ends order_limit addition_limit n (entry t n) (nums column_of) (nums start) w q;
            canon = record { of_maxima = w.done q; under_ceiling = λ i hi. omega (arith, w.bounded i hi, height_low n r small le) };
          }

  -- the last round, after which n have been made
  pub climbed_last : n ≤ r → Climbed t n start column_of (then_some e l)
  climbed_last all = last e refl
    where
      last : (b : Bool) → e ≡ b → Climbed t n start column_of (then_some b l)
      last true q = climbed_ended q
      last false q =
          record {
            least = λ m f. cc;
            exceeded = λ f. fails order_limit addition_limit n (entry t n) (nums column_of) (nums start) w q all;
          }
