-- C4: there is at most one least canon from a start, one first transversal, one head of a column and one sum, so at most one
-- solution; and what is said of additions, stars and heads is said of any that agree with them in the rows. Assumes nothing.
use mathlib.Core.Path.{◌≡◌, sym, ◌∙◌, ap}
use Prim.Native.Nat.{ℕ, zero, suc, ◌<◌}
use native.Mathlib.Decide.{dec_lt}
use native.Mathlib.Omega.{arith}
use lib.IntN.{ℤ}
use Rattle.theory.specs.Canon.{Transversal, Maximum, OfMaxima, Canon, LeastFrom, Head, Heads, Stars, sum, Misplaced, on_absent, exceeded, Solution}
use Rattle.theory.proofs.Totals.{total_sameℤ}
use Rattle.theory.proofs.Duality.{maxima_everywhere, head_once}

module _ (n : ℕ) (a : ℕ → ℕ → ℤ) where
  -- f and g agree in the first n rows
  abbrev pub Same : {X : Type 0} → (ℕ → X) → (ℕ → X) → Type 0
  Same f g = (i : ℕ) → i < n → f i ≡ g i

  pub least_once : {start l m : ℕ → ℕ} → LeastFrom n a start l → LeastFrom n a start m → Same l m
  least_once s t i hi =
      omega (arith, s.least _ t.canon t.from_start i hi, t.least _ s.canon s.from_start i hi)

  -- The first transversals of two canons are the same, since the two have the same transversals of column maxima: in the first
  -- row in which they differed one would come before the other.
  pub stars_once : {l m σ τ : ℕ → ℕ} → Stars n a l σ → Stars n a m τ → Same σ τ
  stars_once {l} {m} {σ} {τ} s t i hi = upto (suc i) i (omega arith) hi
    where
      differ : (i : ℕ) → i < n → ((k : ℕ) → k < i → σ k ≡ τ k) → Dec (σ i < τ i) → Dec (τ i < σ i) → σ i ≡ τ i
      differ i hi before (yes lt) q =
          absurd (t.first σ (maxima_everywhere n a s.of_maxima (record { columns = τ; of_maxima = t.of_maxima }))
          (record { row = i; inside = hi; same = before; smaller = lt }))
      differ i hi before (no ge) (yes lt) =
          absurd (s.first τ (maxima_everywhere n a t.of_maxima (record { columns = σ; of_maxima = s.of_maxima }))
          (record { row = i; inside = hi; same = λ k hk. sym (before k hk); smaller = lt }))
      differ i hi before (no ge) (no le) = omega arith

      upto : (b i : ℕ) → i < b → i < n → σ i ≡ τ i
      upto zero i h hi = absurd (omega arith)
      upto (suc b) i h hi = differ i hi (λ k hk. upto b k (omega arith) (omega arith)) (dec_lt (σ i) (τ i)) (dec_lt (τ i) (σ i))

  -- what is said of additions is said of any that agree in the rows
  pub maximum_same : {l m : ℕ → ℕ} {i j : ℕ} → Same l m → i < n → Maximum n a l i j → Maximum n a m i j
  maximum_same {l} {m} {i} {j} e hi c =
      record {
        present = c.present;
        unexceeded = λ k hk p. rw (← (e k hk), ← (e i hi)) (c.unexceeded k hk p);
      }

  pub of_maxima_same : {l m σ : ℕ → ℕ} → Same l m → OfMaxima n a l σ → OfMaxima n a m σ
  of_maxima_same e c = record { transversal = c.transversal; maximum = λ i hi. maximum_same e hi (c.maximum i hi) }

  pub canon_same : {l m : ℕ → ℕ} → Same l m → Canon n a l → Canon n a m
  canon_same e c = record { columns = c.columns; of_maxima = of_maxima_same e c.of_maxima }

  pub head_same : {l m : ℕ → ℕ} {j : ℕ} {h : ℤ} → Same l m → Head n a l j h → Head n a m j h
  head_same e t =
      record {
        row = t.row;
        inside = t.inside;
        maximum = maximum_same e t.inside t.maximum;
        is = rw (← (e t.row t.inside)) t.is;
      }

  -- what is said of a transversal is said of any that agrees with it in the rows
  pub transversal_same : {σ τ : ℕ → ℕ} → Same σ τ → Transversal n a σ → Transversal n a τ
  transversal_same e t =
      record {
        inside = λ i hi. rw (← (e i hi)) (t.inside i hi);
        present = λ i hi. rw (← (e i hi)) (t.present i hi);
        apart = λ i k hi hk q. t.apart i k hi hk (e i hi ∙ q ∙ sym (e k hk));
      }

  pub of_maxima_rows : {l σ τ : ℕ → ℕ} → Same σ τ → OfMaxima n a l σ → OfMaxima n a l τ
  of_maxima_rows e c = record { transversal = transversal_same e c.transversal; maximum = λ i hi. rw (← (e i hi)) (c.maximum i hi) }

  pub stars_rows : {l σ τ : ℕ → ℕ} → Same σ τ → Stars n a l σ → Stars n a l τ
  stars_rows {l} {σ} {τ} e s =
      record {
        of_maxima = of_maxima_rows e s.of_maxima;
        first = λ ρ c b. s.first ρ c (record {
          row = b.row;
          inside = b.inside;
          same = λ i hi. b.same i hi ∙ sym (e i (omega (arith, b.inside)));
          smaller = rw (e b.row b.inside) b.smaller;
        });
      }

  pub sum_same : {σ τ : ℕ → ℕ} → Same σ τ → sum n a σ ≡ sum n a τ
  sum_same {σ} {τ} e = total_sameℤ n (λ i. a i (σ i)) (λ i. a i (τ i)) (λ i hi. ap (a i) (e i hi))

  pub misplaced_same : {σ τ : ℕ → ℕ} → Same σ τ → Misplaced n a σ → Misplaced n a τ
  misplaced_same e (on_absent i hi p) = on_absent i hi (rw (← (e i hi)) p)
  misplaced_same {σ} {τ} e (exceeded ρ t lt) = exceeded ρ t (rw (← (sum_same e)) lt)

  pub heads_once : {l m : ℕ → ℕ} {h k : ℕ → ℤ} → Same l m → Heads n a l h → Heads n a m k → Same h k
  heads_once e s t j hj = head_once n a (head_same e (s j hj)) (t j hj)

  -- what is said of additions, stars and heads is said of any that agree with them in the rows and columns
  pub least_same : {start l m : ℕ → ℕ} → Same l m → LeastFrom n a start l → LeastFrom n a start m
  least_same e f =
      record {
        canon = canon_same e f.canon;
        from_start = λ i hi. rw (← (e i hi)) (f.from_start i hi);
        least = λ c cc from i hi. rw (← (e i hi)) (f.least c cc from i hi);
      }

  pub start_same : {start begin l : ℕ → ℕ} → Same start begin → LeastFrom n a start l → LeastFrom n a begin l
  start_same e f =
      record {
        canon = f.canon;
        from_start = λ i hi. rw (← (e i hi)) (f.from_start i hi);
        least = λ c cc from. f.least c cc (λ i hi. rw (e i hi) (from i hi));
      }

  pub stars_same : {l m σ : ℕ → ℕ} → Same l m → Stars n a l σ → Stars n a m σ
  stars_same e s =
      record { of_maxima = of_maxima_same e s.of_maxima; first = λ τ c. s.first τ (of_maxima_same (λ i hi. sym (e i hi)) c) }

  -- two solutions from one start agree in everything
  pub record OneSolution (l m σ τ : ℕ → ℕ) (h k : ℕ → ℤ) (s t : ℤ) : Type 0 where
    pub additions : Same l m
    pub stars : Same σ τ
    pub heads : Same h k
    pub one_sum : s ≡ t

  pub solution_once : {start l m σ τ : ℕ → ℕ} {h k : ℕ → ℤ} {s t : ℤ} → Solution n a start l σ h s → Solution n a start m τ k t
      → OneSolution l m σ τ h k s t
  solution_once p q =
      let e = least_once p.additions q.additions in
      let f = stars_once p.stars q.stars in
      record { additions = e; stars = f; heads = heads_once e p.heads q.heads; one_sum = p.is_sum ∙ sum_same f ∙ sym q.is_sum }
