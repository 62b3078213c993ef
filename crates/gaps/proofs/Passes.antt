-- The passes over rows and columns, one place after the other: looking for the least gap, rising. Assumes nothing.
use mathlib.Core.Path.{◌≡◌, refl, ◌∙◌}
use mathlib.Core.Bool.{Bool, true, false}
use mathlib.Core.List.{List}
use mathlib.Core.Logic.{inl, inr}
use Prim.Native.Nat.{ℕ, ◌+◌, ◌*◌, ◌≤◌, ◌<◌}
use native.Mathlib.Decide.{ℕ_discrete}
use native.Mathlib.Omega.{arith}
use lib.IntN.{ℤ, pos, ◌+ℤ◌}
use lib.ListN.{set}
use lib.Signed.{mag}
use mir.Syntax.{w32}
use mir.Val.{SFits}
use Rattle.theory.specs.Lists.{nums, ints, flags}
use Rattle.theory.specs.Limits.{row_limit, order_limit}
use Rattle.theory.specs.Table.{entry}
use Rattle.theory.proofs.Signed.{plus, signed, mag_up, mag_dn}
use Rattle.orders.specs.Places.{ceiling}
use Rattle.orders.proofs.Entries.{clash}
use Rattle.orders.proofs.Stores.{Put, after, put_nums, put_ints}
use Rattle.gaps.specs.declared.LeastGap.{LeastGap}
use Rattle.gaps.specs.declared.raised.Raised.{Raised}
use Rattle.gaps.specs.declared.tree.Tree.{Tree}
use Rattle.gaps.specs.Steps.{no_gap, Nearer, Lesser, LeastOf, share, Narrowed, Rising, RisenBy}

-- a head that is small enough fits
pub head_fits : (h : ℤ) → mag h ≤ ceiling + order_limit → SFits w32 h
head_fits h small = omega (arith, signed, mag_up h, mag_dn h)

-- ---- the least gap
-- the ways into the first k columns are looked at, the others are as they were
pub record Looking (t : List ℤ) (n k row : ℕ) (r : Raised) (w w' : Tree) (b : LeastGap) : Type 0 where
  pub ways : (j : ℕ) → j < k → flags w.reached j ≡ false
      → Nearer (entry t n row j) (nums r.additions row) (ints r.heads j) row (nums w.gaps j) (nums w.givers j) (nums w'.gaps j) (nums w'.givers j)
  pub kept : (j : ℕ) → j < k → flags w.reached j ≡ true → (nums w'.gaps j ≡ nums w.gaps j) × (nums w'.givers j ≡ nums w.givers j)
  pub rest : (j : ℕ) → k ≤ j → (nums w'.gaps j ≡ nums w.gaps j) × (nums w'.givers j ≡ nums w.givers j)
  pub same : (w'.rows ≡ w.rows) × (w'.reached ≡ w.reached)
  pub least : (j : ℕ) → j < k → flags w.reached j ≡ false → b.gap ≤ nums w'.gaps j
  pub most : b.gap ≤ no_gap
  pub column : b.gap < no_gap → (b.column < k) × (flags w.reached b.column ≡ false) × (nums w'.gaps b.column ≡ b.gap)

module _ {t : List ℤ} {n row : ℕ} {r : Raised} {w : Tree} where
  pub look_start : Looking t n 0 row r w w (record { gap = no_gap; column = 0 })
  look_start =
      record {
        ways = λ j hj. absurd (omega arith);
        kept = λ j hj. absurd (omega arith);
        rest = λ j hj. (refl, refl);
        same = (refl, refl);
        least = λ j hj. absurd (omega arith);
        most = omega arith;
        column = λ lt. absurd (omega arith);
      }

  module _ {k : ℕ} {w' : Tree} {b : LeastGap} (o : Looking t n k row r w w' b) where
    pub look_skip : flags w'.reached k ≡ true → Looking t n (k + 1) row r w w' b
    look_skip e =
        record {
          ways = λ j hj f. o.ways j (other j hj f) f;
          kept = λ j hj f.
              elim (ℕ_discrete j k) [
                | yes q ↦ o.rest j (omega arith)
                | no ne ↦ o.kept j (omega arith) f
              ];
          rest = λ j hj. o.rest j (omega arith);
          same = o.same;
          least = λ j hj f. o.least j (other j hj f) f;
          most = o.most;
          column = λ lt.
              let c = o.column lt in
              (omega (arith, c.0), c.1, c.2);
        }
      where
        other : (j : ℕ) → j < k + 1 → flags w.reached j ≡ false → j < k
        other j hj f =
            elim (ℕ_discrete j k) [
              | yes q ↦ clash (rw o.same.1 at e) (rw q at f)
              | no ne ↦ omega arith
            ]

    module _ (small : k < row_limit) (e : flags w'.reached k ≡ false) (g p : ℕ) (b' : LeastGap)
        (near : Nearer (entry t n row k) (nums r.additions row) (ints r.heads k) row (nums w'.gaps k) (nums w'.givers k) g p)
        (less : Lesser b g k b') (w'' : Tree) (eg : w''.gaps ≡ set w'.gaps k g) (ep : w''.givers ≡ set w'.givers k p)
        (es : (w''.rows ≡ w'.rows) × (w''.reached ≡ w'.reached)) where
      put_gap : Put (nums w'.gaps) (nums w''.gaps) k g
      put_gap = rw eg (put_nums w'.gaps k g (omega (arith, w'.long.2)))

      put_giver : Put (nums w'.givers) (nums w''.givers) k p
      put_giver = rw ep (put_nums w'.givers k p (omega (arith, w'.long.3)))

      unreached : flags w.reached k ≡ false
      unreached = rw o.same.1 at e

      pub look_take : Looking t n (k + 1) row r w w'' b'
      look_take =
          record {
            ways = λ j hj f.
                elim (ℕ_discrete j k) [
                  | yes q ↦
                      let x = o.rest k (omega arith) in
                      rw (q, put_gap.at, put_giver.at, ← x.0, ← x.1) near
                  | no ne ↦ rw (put_gap.off j ne, put_giver.off j ne) (o.ways j (omega arith) f)
                ];
            kept = λ j hj f.
                elim (ℕ_discrete j k) [
                  | yes q ↦ clash f (rw q unreached)
                  | no ne ↦ rw (put_gap.off j ne, put_giver.off j ne) (o.kept j (omega arith) f)
                ];
            rest = λ j hj.
                let x = o.rest j (omega arith) in
                (put_gap.off j (omega arith) ∙ x.0, put_giver.off j (omega arith) ∙ x.1);
            same = (es.0 ∙ o.same.0, es.1 ∙ o.same.1);
            least = λ j hj f.
                after (λ x y. b'.gap ≤ y) put_gap j (λ q. less.this) (λ ne. omega (arith, less.that, o.least j (omega arith) f));
            most = omega (arith, less.that, o.most);
            column = λ lt.
                elim less.one [
                  | inl q ↦
                      let c = o.column (rw q at lt) in
                      rw q (omega (arith, c.0), c.1, put_gap.off b.column (omega (arith, c.0)) ∙ c.2)
                  | inr q ↦ rw (q.0, q.1) (omega arith, unreached, put_gap.at)
                ];
          }

  -- past the loop: the least gap of all columns
  pub look_end : {w' : Tree} {b : LeastGap} → Looking t n n row r w w' b → b.gap < no_gap → LeastOf n w' b
  look_end {w'} {b} o lt =
      let c = o.column lt in
      record {
        gap = lt;
        column = c.0;
        unreached = rw o.same.1 c.1;
        is = c.2;
        least = λ j hj f. o.least j hj (rw o.same.1 at f);
      }

-- ---- a rise
-- the first k rows and columns are risen, the others are as they were
pub record RisenTo (k δ : ℕ) (w : Tree) (r : Raised) (w' : Tree) (r' : Raised) : Type 0 where
  pub risen : RisenBy k δ w r w' r'
  pub rest : (x : ℕ) → k ≤ x
      → (nums r'.additions x ≡ nums r.additions x) × (ints r'.heads x ≡ ints r.heads x) × (nums w'.gaps x ≡ nums w.gaps x)

share_none : (b : Bool) → share 0 b ≡ 0
share_none true = refl
share_none false = refl

module _ {δ : ℕ} {w : Tree} {r : Raised} where
  -- a rise by 0 changes nothing
  pub rise_none : {k : ℕ} → δ ≡ 0 → RisenBy k δ w r w r
  rise_none {k} e =
      rw e
      record {
        addition = λ i hi. omega (arith, share_none (flags w.rows i));
        head = λ j hj. omega (arith, signed, share_none (flags w.reached j), plus (ints r.heads j) (pos (share 0 (flags w.reached j))));
        gap = λ j hj. record { kept = λ q. q; less = λ q. omega arith };
        same = (refl, refl, refl);
      }

  pub rise_start : RisenTo 0 δ w r w r
  rise_start =
      record {
        risen = record {
          addition = λ i hi. absurd (omega arith);
          head = λ j hj. absurd (omega arith);
          gap = λ j hj. absurd (omega arith);
          same = (refl, refl, refl);
        };
        rest = λ x hx. (refl, refl, refl);
      }

  -- what the next place holds is small, and its gap no less than the rise
  module _ {k : ℕ} {w' : Tree} {r' : Raised} (o : RisenTo k δ w r w' r') {n : ℕ} (q : Rising n δ r w.gaps) (inside : k < n) where
    pub rise_add : {u : ℕ} → u ≤ δ → nums r'.additions k + u ≤ 3 * ceiling
    rise_add le = omega (arith, (o.rest k (omega arith)).0, q.additions k inside, q.rise)

    pub rise_head : mag (ints r'.heads k) ≤ ceiling + order_limit
    rise_head = rw (o.rest k (omega arith)).1 (q.heads k inside)

    pub rise_gap : nums w'.gaps k < no_gap → δ ≤ nums w'.gaps k
    rise_gap = rw (o.rest k (omega arith)).2 (q.gap k inside)

  module _ {k : ℕ} {w' : Tree} {r' : Raised} (o : RisenTo k δ w r w' r') (small : k < row_limit) {u : ℕ} {v : ℤ} {d : ℕ}
      (eu : u ≡ share δ (flags w'.rows k)) (ev : v ≡ ints r'.heads k +ℤ pos (share δ (flags w'.reached k))) (ed : Narrowed δ (nums w'.gaps k) d)
      (w'' : Tree) (r'' : Raised) (el : r''.additions ≡ set r'.additions k (nums r'.additions k + u)) (eh : r''.heads ≡ set r'.heads k v)
      (eg : w''.gaps ≡ set w'.gaps k d) (es : (w''.rows ≡ w'.rows) × (w''.reached ≡ w'.reached) × (w''.givers ≡ w'.givers)) where
    pub rise_step : RisenTo (k + 1) δ w r w'' r''
    rise_step =
        record {
          risen = record {
            addition = λ i hi.
                after (λ x y. y ≡ nums r.additions x + share δ (flags w.rows x)) pl i
                (λ q. let x : u ≡ share δ (flags w.rows k) = rw o.risen.same.0 at eu in omega (arith, x, (o.rest k (omega arith)).0))
                (λ ne. o.risen.addition i (omega arith));
            head = λ j hj.
                after (λ x y. y ≡ ints r.heads x +ℤ pos (share δ (flags w.reached x))) ph j
                (λ q. rw (← o.risen.same.1, ← (o.rest k (omega arith)).1) ev) (λ ne. o.risen.head j (omega arith));
            gap = λ j hj.
                after (λ x y. Narrowed δ (nums w.gaps x) y) pg j (λ q. rw (← (o.rest k (omega arith)).2) ed)
                (λ ne. o.risen.gap j (omega arith));
            same = (es.0 ∙ o.risen.same.0, es.1 ∙ o.risen.same.1, es.2 ∙ o.risen.same.2);
          };
          rest = λ x hx.
              let q = o.rest x (omega arith) in
              (pl.off x (omega arith) ∙ q.0, ph.off x (omega arith) ∙ q.1, pg.off x (omega arith) ∙ q.2);
        }
      where
        pl : Put (nums r'.additions) (nums r''.additions) k (nums r'.additions k + u)
        pl = rw el (put_nums r'.additions k (nums r'.additions k + u) (omega (arith, r'.long.0)))

        ph : Put (ints r'.heads) (ints r''.heads) k v
        ph = rw eh (put_ints r'.heads k v (omega (arith, r'.long.1)))

        pg : Put (nums w'.gaps) (nums w''.gaps) k d
        pg = rw eg (put_nums w'.gaps k d (omega (arith, w'.long.2)))
