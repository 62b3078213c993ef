-- The fall from a canon to the least canon above the floors, over functions. Assumes nothing.
use mathlib.Core.Path.{◌≡◌, refl, ◌∙◌, ap}
use mathlib.Core.Logic.{◌⊎◌, inl, inr}
use mathlib.Core.Bool.{Bool, true, false}
use mathlib.Core.List.{List}
use Prim.Native.Nat.{ℕ, ◌+◌, ◌≤◌, ◌<◌}
use native.Mathlib.Omega.{arith}
use lib.IntN.{ℤ, pos, ◌+ℤ◌}
use lib.Signed.{◌≤ℤ◌}
use lib.ListN.{length, set, length-set, replicate, length-replicate}
use Rattle.theory.specs.Limits.{row_limit}
use Rattle.theory.specs.Lists.{nums, flags}
use Rattle.theory.specs.Table.{Present, entry}
use Rattle.theory.specs.Canon.{OfMaxima, Canon, AtMost, LeastFrom}
use Rattle.theory.proofs.Signed.{up, dn, raised_le_ud, ud_raised_le}
use Rattle.theory.proofs.Duality.{maxima_everywhere}
use Rattle.orders.specs.Places.{ceiling}
use Rattle.orders.proofs.Entries.{clash}
use Rattle.orders.proofs.Flags.{all_unset, set_flag, unset, unset_fewer}
use Rattle.orders.specs.Held.{LeastBy}
use Rattle.orders.proofs.Stores.{put_flags}
use Rattle.lowering.specs.Descent.{LeastOf, Spare, Fallen, PulledAt, Falls, Settles, CanonGiven}
use Rattle.lowering.specs.declared.rows.Rows.{Rows}

-- ---- the fall
module _ (n : ℕ) (a : ℕ → ℕ → ℤ) (σ start : ℕ → ℕ) where
  -- What holds while rows are settled. The additions l are a canon, and the floors lie between the start and l; a settled row has
  -- come down to its floor, and keeps the others from falling below theirs; no canon from the start is below the floors.
  pub record Falling (l floors : ℕ → ℕ) (settled : ℕ → Bool) : Type 0 where
    pub of_maxima : OfMaxima n a l σ
    pub start_below : AtMost n start floors
    pub floors_below : AtMost n floors l
    pub down : (i : ℕ) → i < n → settled i ≡ true → l i ≤ floors i
    pub held : (k i : ℕ) → k < n → i < n → settled k ≡ true → Present (a k (σ i)) → (a k (σ i) +ℤ pos (l k)) ≤ℤ (a i (σ i) +ℤ pos (floors i))
    pub under : (m : ℕ → ℕ) → Canon n a m → AtMost n start m → AtMost n floors m

  pub falling_start : (l : ℕ → ℕ) (settled : ℕ → Bool) → OfMaxima n a l σ → AtMost n start l → ((i : ℕ) → settled i ≡ false) → Falling l start settled
  falling_start l settled c above none =
      record {
        of_maxima = c;
        start_below = λ i hi. omega arith;
        floors_below = above;
        down = λ i hi e. clash e (none i);
        held = λ k i hk hi e. clash e (none k);
        under = λ m cm from. from;
      }

  -- when every row is settled, l has come down to the floors, below which no canon is
  pub falling_end : {l floors : ℕ → ℕ} {settled : ℕ → Bool} → Falling l floors settled → ((i : ℕ) → i < n → settled i ≡ true) → LeastFrom n a start l
  falling_end f all =
      record {
        canon = record { columns = σ; of_maxima = f.of_maxima };
        from_start = λ i hi. omega (arith, f.start_below i hi, f.floors_below i hi);
        least = λ m cm from i hi. omega (arith, f.under m cm from i hi, f.down i hi (all i hi));
      }

  -- One row u more is settled: the unsettled rows fall by its slack d, the least; then the floors rise by what row u holds up.
  module _ {l l' floors floors' : ℕ → ℕ} {settled settled' : ℕ → Bool} {u d : ℕ} (f : Falling l floors settled) (hu : u < n)
      (open-u : settled u ≡ false) (slack : d + floors u ≡ l u)
      (least : (i : ℕ) → i < n → settled i ≡ false → d + floors i ≤ l i)
      (fallen : (i : ℕ) → i < n → Fallen l settled d i (l' i))
      (marked : (i : ℕ) → i < n → settled' i ≡ true → (i ≡ u) ⊎ (settled i ≡ true))
      (pulled : (i : ℕ) → i < n → PulledAt a σ floors u (l' u) i (floors' i)) where
    not_higher : AtMost n l' l
    not_higher i hi = go (settled i) refl
      where
        go : (b : Bool) → settled i ≡ b → l' i ≤ l i
        go true e = omega (arith, (fallen i hi).stays e)
        go false e = omega (arith, (fallen i hi).falls e)

    not_lower : AtMost n floors l'
    not_lower i hi = go (settled i) refl
      where
        go : (b : Bool) → settled i ≡ b → floors i ≤ l' i
        go true e = omega (arith, (fallen i hi).stays e, f.floors_below i hi)
        go false e = omega (arith, (fallen i hi).falls e, least i hi e)

    at_floor : l' u ≡ floors u
    at_floor = omega (arith, (fallen u hu).falls open-u)

    -- an unsettled row meets a settled one at its floor, and every other comparison is kept
    still : (i k : ℕ) → i < n → k < n → Present (a k (σ i)) → (a k (σ i) +ℤ pos (l' k)) ≤ℤ (a i (σ i) +ℤ pos (l' i))
    still i k hi hk p = go (settled i) (settled k) refl refl
      where
        le : up (a k (σ i)) + l k + dn (a i (σ i)) ≤ up (a i (σ i)) + l i + dn (a k (σ i))
        le = raised_le_ud (a k (σ i)) (a i (σ i)) (l k) (l i) ((f.of_maxima.maximum i hi).unexceeded k hk p)

        go : (b c : Bool) → settled i ≡ b → settled k ≡ c → (a k (σ i) +ℤ pos (l' k)) ≤ℤ (a i (σ i) +ℤ pos (l' i))
        go true c e g = ud_raised_le (a k (σ i)) (a i (σ i)) (l' k) (l' i) (omega (arith, le, (fallen i hi).stays e, not_higher k hk))
        go false true e g =
            ud_raised_le (a k (σ i)) (a i (σ i)) (l' k) (l' i)
            (omega (arith, (fallen k hk).stays g, not_lower i hi, raised_le_ud (a k (σ i)) (a i (σ i)) (l k) (floors i) (f.held k i hk hi g p)))
        go false false e g =
            ud_raised_le (a k (σ i)) (a i (σ i)) (l' k) (l' i) (omega (arith, le, (fallen i hi).falls e, (fallen k hk).falls g))

    still_maxima : OfMaxima n a l' σ
    still_maxima =
        record {
          transversal = f.of_maxima.transversal;
          maximum = λ i hi. record { present = f.of_maxima.transversal.present i hi; unexceeded = λ k hk p. still i k hi hk p };
        }

    falling_under : (m : ℕ → ℕ) → Canon n a m → AtMost n start m → AtMost n floors' m
    falling_under m cm from i hi =
        (pulled i hi).least (m i) (f.under m cm from i hi)
        (λ p. ud_raised_le (a u (σ i)) (a i (σ i)) (l' u) (m i)
        (omega (
          arith,
          at_floor,
          f.under m cm from u hu,
          raised_le_ud (a u (σ i)) (a i (σ i)) (m u) (m i) (((maxima_everywhere n a f.of_maxima cm).maximum i hi).unexceeded u hu p),
        )))

    falling_held : (k i : ℕ) → k < n → i < n → settled' k ≡ true → Present (a k (σ i)) → (a k (σ i) +ℤ pos (l' k)) ≤ℤ (a i (σ i) +ℤ pos (floors' i))
    falling_held k i hk hi e p = go (marked k hk e)
      where
        go : (k ≡ u) ⊎ (settled k ≡ true) → (a k (σ i) +ℤ pos (l' k)) ≤ℤ (a i (σ i) +ℤ pos (floors' i))
        go (inl q) = rw q ((pulled i hi).enough (rw q at p))
        go (inr q) =
            ud_raised_le (a k (σ i)) (a i (σ i)) (l' k) (floors' i)
            (omega (arith, (fallen k hk).stays q, (pulled i hi).above, raised_le_ud (a k (σ i)) (a i (σ i)) (l k) (floors i) (f.held k i hk hi q p)))

    falling_down : (i : ℕ) → i < n → settled' i ≡ true → l' i ≤ floors' i
    falling_down i hi e = go (marked i hi e)
      where
        go : (i ≡ u) ⊎ (settled i ≡ true) → l' i ≤ floors' i
        go (inl q) = rw q (omega (arith, at_floor, (pulled u hu).above))
        go (inr q) = omega (arith, (fallen i hi).stays q, f.down i hi q, (pulled i hi).above)

    pub falling_step : Falling l' floors' settled'
    falling_step =
        record {
          of_maxima = still_maxima;
          start_below = λ i hi. omega (arith, f.start_below i hi, (pulled i hi).above);
          floors_below = λ i hi. (pulled i hi).least (l' i) (not_lower i hi) (λ p. still i u hi hu p);
          down = falling_down;
          held = falling_held;
          under = falling_under;
        }

-- ---- the fall in the code's rows
-- what holds between two rows that are settled
pub record Going (t : List ℤ) (n : ℕ) (columns canon floors : List ℕ) (r : Rows) : Type 0 where
  pub falling : Falling n (entry t n) (nums columns) (nums floors) (nums r.additions) (nums r.floors) (flags r.settled)
  pub long : length r.settled ≡ row_limit
  pub not_above : AtMost n (nums r.additions) (nums canon)

module _ {t : List ℤ} {n : ℕ} {columns canon floors : List ℕ} (g : CanonGiven t n columns canon floors) where
  pub going_start : Going t n columns canon floors (record { additions = canon; floors = floors; settled = replicate row_limit false })
  going_start =
      record {
        falling =
            falling_start n (entry t n) (nums columns) (nums floors) (nums canon) (flags (replicate row_limit false)) g.canon_by.of_maxima
            g.not_below (all_unset row_limit);
        long = length-replicate row_limit false;
        not_above = λ i hi. omega arith;
      }

  pub going_end : {r : Rows} → Going t n columns canon floors r → ((i : ℕ) → i < n → flags r.settled i ≡ true)
      → LeastBy t n (nums floors) r.additions columns
  going_end go all =
      record {
        least = falling_end n (entry t n) (nums columns) (nums floors) go.falling all;
        canon = record {
          of_maxima = go.falling.of_maxima;
          under_ceiling = λ i hi. omega (arith, go.not_above i hi, g.canon_by.under_ceiling i hi);
        };
      }

  -- row k is settled next: the rows fall from r to r' by its slack d, and then the floors rise to those of r''
  module _ {r : Rows} {k d : ℕ} (go : Going t n columns canon floors r) (s : LeastOf n r k d) where
    pub going_spare : Spare n r d
    going_spare i hi e = omega (arith, s.least i hi e)

    module _ {r' : Rows} (f : Falls n d r r') where
      lower : AtMost n (nums r'.additions) (nums r.additions)
      lower i hi = low (flags r.settled i) refl
        where
          low : (b : Bool) → flags r.settled i ≡ b → nums r'.additions i ≤ nums r.additions i
          low true e = omega (arith, (f.fallen i hi).stays e)
          low false e = omega (arith, (f.fallen i hi).falls e)

      pub going_under : (i : ℕ) → i < n → nums r'.additions i ≤ ceiling
      going_under i hi = omega (arith, lower i hi, go.not_above i hi, g.canon_by.under_ceiling i hi)

      module _ {r'' : Rows} (p : Settles n (entry t n) (nums columns) k r' r'') where
        now_settled : r''.settled ≡ set r.settled k true
        now_settled = p.settled ∙ ap (λ x. set x k true) f.settled

        next : Falling n (entry t n) (nums columns) (nums floors) (nums r'.additions) (nums r''.floors) (flags (set r.settled k true))
        next =
            falling_step n (entry t n) (nums columns) (nums floors) go.falling s.inside s.unsettled s.amount s.least f.fallen
            (λ i hi. set_flag r.settled k i) (rw f.floors at p.pulled)

        pub going_step : Going t n columns canon floors r''
        going_step =
            record {
              falling = rw (p.additions, now_settled) next;
              long = rw now_settled (length-set r.settled k true ∙ go.long);
              not_above = λ i hi. rw p.additions (omega (arith, go.not_above i hi, lower i hi));
            }

        pub going_fewer : n ≤ row_limit → unset n (flags r''.settled) < unset n (flags r.settled)
        going_fewer small =
            let put = put_flags r.settled k true (omega (arith, s.inside, go.long)) in
            rw now_settled (omega (arith, unset_fewer n s.inside s.unsettled put))
