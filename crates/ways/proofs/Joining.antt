-- The rows found by the search, and the rows left behind them: the first that is found, and one more. Assumes nothing.
use mathlib.Core.Path.{◌≡◌, sym, ◌∙◌, ap}
use mathlib.Core.Logic.{◌≢◌}
use Prim.Native.Nat.{ℕ, ◌+◌, ◌-◌, ◌≤◌, ◌<◌}
use native.Mathlib.Decide.{ℕ_discrete, dec_lt}
use native.Mathlib.Omega.{arith}
use lib.IntN.{ℤ}
use Rattle.theory.specs.Canon.{Maximum}
use Rattle.theory.proofs.Pigeonhole.{onto}
use Rattle.theory.specs.Paths.{Leads}
use Rattle.ways.specs.Search.{RowsFound, AllFound, RowsLeft, MoreFound}
use Rattle.std.proofs.lemmas.List.Edits.{Swapped}
use Rattle.orders.proofs.Stores.{Put}

-- the rows at the places from `count` to p have no maximum in the column
abbrev pub Passed : (n : ℕ) (a : ℕ → ℕ → ℤ) (l queue : ℕ → ℕ) (column count p : ℕ) → Type 0
Passed n a l queue column count p = (q : ℕ) → q < p → count ≤ q → Maximum n a l (queue q) column → ⊥

module _ {n : ℕ} {a : ℕ → ℕ → ℤ} {l : ℕ → ℕ} {i : ℕ} {σ next step queue : ℕ → ℕ} {count : ℕ}
    (w : RowsFound n a l i σ next step queue count) where
  -- row i is found, and it alone has step 1: every other row found goes on to one with a smaller step
  pub root_found : 0 < step i
  root_found = omega (arith, w.root)

  pub root_alone : (k : ℕ) → k < n → step k ≡ 1 → k ≡ i
  root_alone k hk first = elim (ℕ_discrete k i) [
    | yes e ↦ e
    | no ne ↦ absurd (omega (arith, w.found k hk (omega arith) ne, w.nearer k hk (omega arith) ne))
  ]

  module _ (left : RowsLeft n i step queue count) where
    -- no row stands in the queue twice: a row found has its place for its step
    queue_apart : (p q : ℕ) → i + p < n → i + q < n → queue p ≡ queue q → p ≡ q
    queue_apart p q hp hq e = go (dec_lt p count) (dec_lt q count)
      where
        go : Dec (p < count) → Dec (q < count) → p ≡ q
        go (yes a) (yes b) = omega (arith, w.numbered p a, w.numbered q b, ap step e)
        go (yes a) (no b) = absurd (omega (arith, w.numbered p a, left.none q (omega arith) hq, ap step e))
        go (no a) (yes b) = absurd (omega (arith, left.none p (omega arith) hp, w.numbered q b, ap step e))
        go (no a) (no b) = left.apart p q (omega arith) hp (omega arith) hq e

    queue_row : (p : ℕ) → i + p < n → (i ≤ queue p) × (queue p < n)
    queue_row p h = go (dec_lt p count)
      where
        go : Dec (p < count) → (i ≤ queue p) × (queue p < n)
        go (yes a) = (w.late p a, w.row p a)
        go (no a) = (omega (arith, left.later p (omega arith) h), left.row p (omega arith) h)

    -- so that by the pigeonhole every row from i on stands in it
    queue_every : (x : ℕ) → i ≤ x → x < n → (p : ℕ) × (i + p < n) × (queue p ≡ x)
    queue_every x low high = go (onto (n - i) (λ p. queue p - i) apart inside (x - i) (omega arith))
      where
        apart : (p q : ℕ) → p < n - i → q < n - i → queue p - i ≡ queue q - i → p ≡ q
        apart p q hp hq e =
            queue_apart p q (omega arith) (omega arith) (omega (arith, (queue_row p (omega arith)).0, (queue_row q (omega arith)).0))

        inside : (p : ℕ) → p < n - i → queue p - i < n - i
        inside p hp = omega (arith, (queue_row p (omega arith)).0, (queue_row p (omega arith)).1)

        go : (p : ℕ) × (p < n - i) × (queue p - i ≡ x - i) → (p : ℕ) × (i + p < n) × (queue p ≡ x)
        go (p, hp, e) = (p, omega arith, omega (arith, (queue_row p (omega arith)).0))

    -- where all places behind are passed, all rows that have a maximum in the column are found
    pub passed_all : {column : ℕ} (p : ℕ) → n ≤ i + p → Passed n a l queue column count p → AllFound n a l i column step
    passed_all p end s x low high t = go (queue_every x (omega arith) high)
      where
        go : (q : ℕ) × (i + q < n) × (queue q ≡ x) → 0 < step x
        go (q, hq, e) = elim (dec_lt q count) [
          | yes h ↦ rw (sym e) (omega (arith, w.numbered q h))
          | no h ↦ absurd (s q (omega arith) (omega arith) (rw e t))
        ]

    -- Row k, at place b behind the rows found, changes places with the first of those behind and is found there, with a step to row m.
    module _ {next' step' queue' : ℕ → ℕ} {b k m : ℕ} (behind : count ≤ b) (inside : i + b < n) (is : queue b ≡ k) (known : 0 < step m)
        (lead : Leads n (Maximum n a l) σ m k) (pn : Put next next' k m) (ps : Put step step' k (count + 1))
        (pq : Swapped queue queue' b count) where
      none : step k ≡ 0
      none = rw is at (left.none b behind inside)

      -- a row that was found is not k, and keeps its step
      not_k : (x : ℕ) → 0 < step x → x ≢ k
      not_k x h e = omega (arith, ap step e, none)

      kept : (x : ℕ) → 0 < step x → step' x ≡ step x
      kept x h = ps.off x (not_k x h)

      was : (x : ℕ) → x ≢ k → 0 < step' x → 0 < step x
      was x ne h = omega (arith, ps.off x ne)

      before : (p : ℕ) → p < count → queue' p ≡ queue p
      before p h = pq.2 p (omega arith) (omega arith)

      -- a place further behind has the row that it had, and place b that of the first place behind
      further : (p : ℕ) → count < p → p ≢ b → queue' p ≡ queue p
      further p h ne = pq.2 p ne (omega arith)

      joined : queue' count ≡ k
      joined = pq.1 ∙ is

      -- what holds of place `count` of the queue and of those before it
      place : (P : ℕ → ℕ → Type 0) → P count k → ((p : ℕ) → p < count → P p (queue p)) → (p : ℕ) → p < count + 1 → P p (queue' p)
      place P new old p h = elim (ℕ_discrete p count) [
        | yes e ↦ rw (e, joined) new
        | no ne ↦ rw (before p (omega arith)) (old p (omega arith))
      ]

      -- what holds of row k with its next row m, and of the rows found before
      each : (P : ℕ → ℕ → ℕ → Type 0) → P k (count + 1) m → ((x : ℕ) → x < n → 0 < step x → x ≢ i → P x (step x) (next x))
          → (x : ℕ) → x < n → 0 < step' x → x ≢ i → P x (step' x) (next' x)
      each P new old x hx h ni = elim (ℕ_discrete x k) [
        | yes e ↦ rw (e, ps.at, pn.at) new
        | no ne ↦ rw (ps.off x ne, pn.off x ne) (old x hx (was x ne h) ni)
      ]

      -- One more row is found: row k, to which row m leads, joins at the end of the rows found. Those keep their steps and their next
      -- rows, and m's step is below k's, which is the greatest.
      pub found_more : RowsFound n a l i σ next' step' queue' (count + 1)
      found_more = record {
        root = kept i (omega (arith, w.root)) ∙ w.root;
        row = place (λ p x. x < n) lead.to w.row;
        late = place (λ p x. i ≤ x) (omega (arith, rw is at (left.later b behind inside))) w.late;
        numbered = place (λ p x. step' x ≡ p + 1) ps.at (λ p h. kept (queue p) (omega (arith, w.numbered p h)) ∙ w.numbered p h);
        counted = λ x hx h. elim (ℕ_discrete x k) [
          | yes e ↦ rw (e, ps.at) (omega arith)
          | no ne ↦ rw (ps.off x ne) (omega (arith, w.counted x hx (was x ne h)))
        ];
        queued = λ x hx h. elim (ℕ_discrete x k) [
          | yes e ↦ last x e
          | no ne ↦ rw (ps.off x ne) (
              before (step x - 1) (omega (arith, w.counted x hx (was x ne h), was x ne h))
              ∙ w.queued x hx (was x ne h))
        ];
        leads = each (λ x s y. Leads n (Maximum n a l) σ y x) lead w.leads;
        found = each (λ x s y. 0 < step' y) (rw (kept m known) known)
            (λ x hx h ni. rw (kept (next x) (w.found x hx h ni)) (w.found x hx h ni));
        nearer = each (λ x s y. step' y < s)
            (rw (kept m known) (omega (arith, w.counted m lead.from known)))
            (λ x hx h ni. rw (kept (next x) (w.found x hx h ni)) (w.nearer x hx h ni));
      }
        where
          last : (x : ℕ) → x ≡ k → queue' (step' x - 1) ≡ x
          last x e =
              let s : step' x - 1 ≡ count = omega (arith, ap step' e, ps.at) in
              ap queue' s ∙ joined ∙ sym e

      -- what was found stays as it was
      pub more_found : {step₀ queue₀ : ℕ → ℕ} {count₀ : ℕ} → MoreFound n step₀ queue₀ count₀ step queue count
          → MoreFound n step₀ queue₀ count₀ step' queue' (count + 1)
      more_found g = record {
        more = omega (arith, g.more);
        same = λ p h. before p (omega (arith, g.more)) ∙ g.same p h;
        kept = λ x hx h. rw (kept x (g.kept x hx h)) (g.kept x hx h);
      }

      -- a place behind has now a row that a place behind other than b had: its own, or b that of place `count`
      each_left : (P : ℕ → Type 0) → ((q : ℕ) → count ≤ q → i + q < n → q ≢ b → P (queue q)) → (p : ℕ) → count < p → i + p < n
          → P (queue' p)
      each_left P of p h hp = elim (ℕ_discrete p b) [
        | yes e ↦ rw (ap queue' e ∙ pq.0) (of count (omega arith) (omega arith) (omega arith))
        | no ne ↦ rw (further p h ne) (of p (omega arith) hp ne)
      ]

      -- so the rows left are those that were, but for k
      pub left_fewer : RowsLeft n i step' queue' (count + 1)
      left_fewer = record {
        few = omega arith;
        row = λ p h hp. each_left (λ x. x < n) (λ q h' hq ne. left.row q h' hq) p (omega arith) hp;
        later = λ p h hp. each_left (λ x. i < x) (λ q h' hq ne. left.later q h' hq) p (omega arith) hp;
        none = λ p h hp. each_left (λ x. step' x ≡ 0)
            (λ q h' hq ne. ps.off (queue q) (λ d. ne (left.apart q b h' hq behind inside (d ∙ sym is))) ∙ left.none q h' hq)
            p (omega arith) hp;
        apart = λ p q h hp h' hq e. go p q (omega arith) hp (omega arith) hq e (ℕ_discrete p b) (ℕ_discrete q b);
      }
        where
          go : (p q : ℕ) → count < p → i + p < n → count < q → i + q < n → queue' p ≡ queue' q → Dec (p ≡ b) → Dec (q ≡ b) → p ≡ q
          go p q h hp h' hq e (yes x) (yes y) = x ∙ sym y
          go p q h hp h' hq e (yes x) (no y) =
              absurd (omega (
                arith,
                left.apart count q (omega arith) (omega arith) (omega arith) hq
                    (sym (pq.0) ∙ ap queue' (sym x) ∙ e ∙ further q h' y),
              ))
          go p q h hp h' hq e (no x) (yes y) =
              absurd (omega (
                arith,
                left.apart p count (omega arith) hp (omega arith) (omega arith)
                    (sym (further p h x) ∙ e ∙ ap queue' y ∙ pq.0),
              ))
          go p q h hp h' hq e (no x) (no y) = left.apart p q (omega arith) hp (omega arith) hq (sym (further p h x) ∙ e ∙ further q h' y)

      -- the rows at the places behind that were passed have no maximum in the column, and k is none of them now
      pub passed_found : {column : ℕ} → Passed n a l queue column count b → Passed n a l queue' column (count + 1) (b + 1)
      passed_found s p hp h = elim (ℕ_discrete p b) [
        | yes e ↦ rw (ap queue' e ∙ pq.0) (s count (omega arith) (omega arith))
        | no ne ↦ rw (further p (omega arith) ne) (s p (omega arith) (omega arith))
      ]

-- row i is found first
pub found_first : (n : ℕ) (a : ℕ → ℕ → ℤ) (l : ℕ → ℕ) (i : ℕ) (σ next step queue step₀ : ℕ → ℕ) → i < n
    → ((x : ℕ) → x < n → step₀ x ≡ 0) → Put step₀ step i 1 → queue 0 ≡ i → RowsFound n a l i σ next step queue 1
found_first n a l i σ next step queue step₀ hi zero ps first = record {
  root = ps.at;
  row = λ p h. rw (at p h) hi;
  late = λ p h. rw (at p h) (omega arith);
  numbered = λ p h. rw (at p h) (omega (arith, ps.at));
  counted = λ x hx h. omega (arith, ap step (only x hx h), ps.at);
  queued = λ x hx h. let s : step x - 1 ≡ 0 = omega (arith, ap step (only x hx h), ps.at) in ap queue s ∙ first ∙ sym (only x hx h);
  leads = λ x hx h ni. absurd (ni (only x hx h));
  found = λ x hx h ni. absurd (ni (only x hx h));
  nearer = λ x hx h ni. absurd (ni (only x hx h));
}
  where
    at : (p : ℕ) → p < 1 → queue p ≡ i
    at p h = let z : p ≡ 0 = omega arith in rw z first

    only : (x : ℕ) → x < n → 0 < step x → x ≡ i
    only x hx h = elim (ℕ_discrete x i) [
      | yes e ↦ e
      | no ne ↦ absurd (omega (arith, ps.off x ne, zero x hx))
    ]

-- and the later rows are left, one after the other
pub left_first : (n i : ℕ) (step queue step₀ : ℕ → ℕ) → i < n → ((x : ℕ) → x < n → step₀ x ≡ 0) → Put step₀ step i 1
    → ((p : ℕ) → 1 ≤ p → i + p < n → queue p ≡ i + p) → RowsLeft n i step queue 1
left_first n i step queue step₀ hi zero ps is = record {
  few = omega arith;
  row = λ p h hp. omega (arith, is p h hp);
  later = λ p h hp. omega (arith, is p h hp);
  none = λ p h hp. ps.off (queue p) (omega (arith, is p h hp)) ∙ zero (queue p) (omega (arith, is p h hp));
  apart = λ p q h hp h' hq e. omega (arith, is p h hp, is q h' hq);
}
