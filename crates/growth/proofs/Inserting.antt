-- An insertion, and the first and the last of them, over the arrays of the code. Assumes nothing.
use mathlib.Core.Path.{◌≡◌, refl, sym, ◌∙◌, ap}
use mathlib.Core.Bool.{true, false}
use mathlib.Core.List.{List}
use Rattle.std.specs.Prelude.{Option}
use Prim.Native.Nat.{ℕ, ◌+◌, ◌*◌, ◌≤◌, ◌<◌}
use native.Mathlib.Decide.{dec_lt}
use native.Mathlib.Omega.{arith}
use lib.Dec.{T, eqb, eqb→eq, eqb_refl}
use lib.IntN.{ℤ, pos}
use lib.ListN.{set, replicate, get_or-replicate}
use lib.Signed.{mag}
use Rattle.theory.specs.Limits.{row_limit, order_limit, addition_limit}
use Rattle.theory.specs.Lists.{nums, ints, flags}
use Rattle.theory.specs.Table.{entry}
use Rattle.theory.specs.Canon.{OfMaxima, Heads, NoTransversal}
use Rattle.theory.proofs.Pigeonhole.{onto}
use Rattle.theory.proofs.Signed.{up, dn, plus, signed}
use Rattle.orders.specs.Places.{ceiling, Marks, Square}
use Rattle.orders.proofs.Places.{within}
use Rattle.orders.proofs.Stores.{Put, put_nums, put_flags}
use Rattle.orders.proofs.Flags.{unset, unset_fewer}
use Rattle.orders.specs.declared.marks.Marked.{Marked}
use Rattle.orders.specs.Held.{Startable, LeastBy}
use Rattle.gaps.specs.declared.LeastGap.{LeastGap}
use Rattle.gaps.specs.declared.raised.Raised.{Raised}
use Rattle.gaps.specs.declared.tree.Tree.{Tree}
use Rattle.gaps.specs.Steps.{no_gap, Joining, LookedAt, LeastOf, Walled, Rising, RisenBy}
use Rattle.growth.specs.Growing.{insertion_rise, Bare, Tight, Free, WayBack, Flipped, Ready, Meeting}
use Rattle.growth.proofs.Flipping.{open_start, open_still, open_end}
use Rattle.growth.proofs.Growth.{by_flag, flag_set}
use Rattle.growth.proofs.Insertion.{Search, Setting, search_start, search_look, search_stuck, search_rise, search_way, search_join}
use Rattle.growth.proofs.Insertion.{rise_most, rise_meets}

mag_small : (z : ℤ) (b : ℕ) → up z ≤ b + dn z → dn z ≤ up z + b → mag z ≤ b
mag_small (pos k) b p q = omega arith
mag_small (lib.IntN.negsuc k) b p q = omega arith

-- an insertion of row s under way, whose row `row` joins the tree next
pub record Searching (t : List ℤ) (n : ℕ) (start : ℕ → ℕ) (s : ℕ) (r : Raised) (m : Marked) (w : Tree) (row : ℕ) : Type 0 where
  pub inside : row < n
  pub search : Search n (entry t n) start s (addition_limit + s * insertion_rise) (nums r.additions) (ints r.heads) (nums m.rows) (nums m.columns)
      (flags w.rows) (flags (set w.rows row true)) (flags w.reached) (nums w.gaps) (nums w.givers)

module _ {t : List ℤ} {n : ℕ} {start : ℕ → ℕ} {s : ℕ} {r₀ : Raised} {m₀ : Marked} (rd : Ready t n start s r₀ m₀) (hs : s < n) where
  setting : Setting n (entry t n) start s (addition_limit + s * insertion_rise)
  setting =
      record { small = rd.square.small; inserting = hs; limits = rd.orders; handed_in = λ i hi. omega (arith, rd.handed_in i hi) }

  pub begin : {w : Tree} → Bare w → Searching t n start s r₀ m₀ w s
  begin {w} b =
      record {
        inside = hs;
        search =
            search_start setting rd.growing rd.top (λ i hi. b.rows i (omega (arith, rd.square.small)))
            (λ j hj. b.reached j (omega (arith, rd.square.small))) (λ j hj. b.gaps j (omega (arith, rd.square.small)))
            (put_flags w.rows s true (omega (arith, w.long.0, rd.square.small)));
      }

  module _ {r : Raised} {m : Marked} {w : Tree} {row : ℕ} (o : Searching t n start s r m w row) where
    addition_under : (i : ℕ) → i < n → nums r.additions i ≤ addition_limit + s * insertion_rise + insertion_rise
    addition_under i hi =
        let z = o.search.heights in
        by_flag (flags (set w.rows row true) i) (λ e. z.inside i hi (flag_set e)) (λ e. omega (arith, z.outside i hi e))

    -- a head is the raised order of a marked place, or one of the start
    head_under : (j : ℕ) → j < n → mag (ints r.heads j) ≤ ceiling + order_limit
    head_under j hj =
        let z = o.search.growing in
        elim (dec_lt (nums m.rows j) n) [
          | yes q ↦
              let k = (z.marking.row j hj q).2 in
              let v = rd.orders (nums m.rows j) j q hj k.present in
              let top = addition_under (nums m.rows j) q in
              let p = plus (entry t n (nums m.rows j) j) (pos (nums r.additions (nums m.rows j))) in
              mag_small (ints r.heads j) (ceiling + order_limit) (omega (arith, signed, k.is, v.high, top, p, rd.square.small))
              (omega (arith, signed, k.is, v.low, p))
          | no nq ↦
              let f = z.first j hj (omega arith) in
              let v = rd.orders f.row j f.inside hj f.maximum.present in
              let p = plus (entry t n f.row j) (pos (start f.row)) in
              mag_small (ints r.heads j) (ceiling + order_limit) (omega (arith, signed, f.is, v.high, rd.handed_in f.row f.inside, p))
              (omega (arith, signed, f.is, v.low, p))
        ]

    pub joining : Joining t n row r
    joining =
        record {
          inside = o.inside;
          reckonable = λ j hj.
              record {
                addition = omega (arith, addition_under row o.inside, rd.square.small);
                head = head_under j hj;
                below = o.search.growing.under row j o.inside hj;
              };
        }

    module _ {w₁ : Tree} {found : Option LeastGap} (k : LookedAt t n row r w w₁ found) where
      looked : Search n (entry t n) start s (addition_limit + s * insertion_rise) (nums r.additions) (ints r.heads) (nums m.rows) (nums m.columns)
          (flags w₁.rows) (flags w₁.rows) (flags w₁.reached) (nums w₁.gaps) (nums w₁.givers)
      looked =
          rw (k.joined, k.reached)
          (search_look setting o.search o.inside (put_flags w.rows row true (omega (arith, o.inside, w.long.0, rd.square.small))) k.ways k.kept)

      -- no way out of the tree
      pub closed : Walled n w₁ → NoTransversal n (entry t n)
      closed wide = search_stuck setting looked no_gap wide (omega arith)

      module _ {b : LeastGap} (f : LeastOf n w₁ b) where
        pub rising : Rising n b.gap r w₁.gaps
        rising =
            record {
              small = rd.square.small;
              rise = omega (arith, rise_most setting looked b.gap f.least b.column f.column f.unreached f.is f.gap, rd.square.small);
              additions = λ i hi. omega (arith, addition_under i hi, rd.square.small);
              heads = head_under;
              gap = λ j hj q.
                  by_flag (flags w₁.reached j) (λ e. absurd (omega (arith, looked.done j hj e))) (λ e. f.least j hj e);
            }

        module _ {w₂ : Tree} {r' : Raised} (v : RisenBy n b.gap w₁ r w₂ r') where
          risen : Search n (entry t n) start s (addition_limit + s * insertion_rise) (nums r'.additions) (ints r'.heads) (nums m.rows) (nums m.columns)
              (flags w₂.rows) (flags w₂.rows) (flags w₂.reached) (nums w₂.gaps) (nums w₂.givers)
          risen =
              rw (v.same.0, v.same.1, v.same.2)
              (search_rise setting looked b.gap f.least b.column f.column f.unreached f.is f.gap v.addition v.head v.gap)

          unreached : flags w₂.reached b.column ≡ false
          unreached = rw v.same.1 f.unreached

          meets : (nums w₂.givers b.column < n) × T (flags w₂.rows (nums w₂.givers b.column))
              × Tight n (entry t n) (nums r'.additions) (ints r'.heads) (nums w₂.givers b.column) b.column
          meets =
              rw (v.same.0, v.same.2)
              (rise_meets setting looked b.gap f.least b.column f.column f.unreached f.is f.gap v.addition v.head v.gap)

          -- the column of the least gap is unmarked: the way back begins there
          pub meeting : n ≤ nums m.rows b.column → Meeting t n start s r' m w₂.givers b.column
          meeting free =
              record {
                growing = risen.growing;
                way = search_way setting risen b.column f.column unreached meets free;
                top = λ i hi.
                    by_flag (flags w₂.rows i) (λ e. omega (arith, risen.heights.inside i hi (flag_set e)))
                    (λ e. omega (arith, risen.heights.outside i hi e));
              }

          -- it is marked: its row joins the tree
          put_column : Put (flags w₂.reached) (flags (set w₂.reached b.column true)) b.column true
          put_column = put_flags w₂.reached b.column true (omega (arith, w₂.long.1, f.column, rd.square.small))

          pub fewer : unset n (flags (set w₂.reached b.column true)) < unset n (flags w.reached)
          fewer =
              let e : unset n (flags w₂.reached) ≡ unset n (flags w.reached) = rw (v.same.1, k.reached) in
              omega (arith, unset_fewer n f.column unreached put_column)

          pub joined : nums m.rows b.column < n → (w₃ : Tree) → w₃.rows ≡ w₂.rows → w₃.reached ≡ set w₂.reached b.column true
              → w₃.gaps ≡ set w₂.gaps b.column no_gap → w₃.givers ≡ w₂.givers → Searching t n start s r' m w₃ (nums m.rows b.column)
          joined q w₃ er ec eg ep =
              record {
                inside = q;
                search =
                    rw (er, ec, eg, ep)
                    (search_join setting risen b.column f.column unreached meets q
                    (put_flags w₂.rows (nums m.rows b.column) true (omega (arith, w₂.long.0, rd.square.small))) put_column
                    (put_nums w₂.gaps b.column no_gap (omega (arith, w₂.long.2, f.column, rd.square.small))));
              }

-- Row s takes the unmarked column j, in which it is tight as it stands: nothing has to rise, and the tree is row s alone.
pub taken : {t : List ℤ} {n : ℕ} {start : ℕ → ℕ} {s : ℕ} {r : Raised} {m : Marked} → Ready t n start s r m → s < n → {j : ℕ} → j < n
    → Free n (entry t n) s (nums r.additions) (ints r.heads) (nums m.rows) j → {m' : Marked} → Put (nums m.rows) (nums m'.rows) j s
    → Put (nums m.columns) (nums m'.columns) s j → Ready t n start (s + 1) r m'
taken {t} {n} {s = s} {r = r} {m = m} rd hs {j} hj free {m'} pr pc =
    record {
      square = rd.square;
      orders = rd.orders;
      handed_in = rd.handed_in;
      growing = record {
        marking = open_end way (open_start way) refl pr pc;
        under = rd.growing.under;
        first = λ x hx q. rd.growing.first x hx (open_still way (open_start way) pr x q);
        from_start = rd.growing.from_start;
        least = rd.growing.least;
      };
      top = λ i hi. omega (arith, rd.top i hi);
    }
  where
    only : (i : ℕ) → T (eqb i s) → i ≡ s
    only i e = eqb→eq i s e

    way : WayBack n (entry t n) s (nums r.additions) (ints r.heads) (nums m.rows) (nums m.columns) (λ x. s) j
    way =
        record {
          small = rd.square.small;
          inserted = hs;
          marking = rd.growing.marking;
          tree = λ i. eqb i s;
          rank = λ i. 0;
          early = λ i hi e. omega (arith, only i e);
          inside = hj;
          free = free.unmarked;
          last = (hs, eqb_refl s, free.tight);
          link = λ i hi e. absurd (omega (arith, only i e));
        }

-- the way back is gone: row s has its mark, and the rows below s + 1 are inserted
pub inserted : {t : List ℤ} {n : ℕ} {start : ℕ → ℕ} {s : ℕ} {r₀ : Raised} {m₀ : Marked} → Ready t n start s r₀ m₀
    → {r : Raised} {m : Marked} {givers : List ℕ} {end : ℕ} → Meeting t n start s r m givers end
    → {m' : Marked} → Flipped s end givers m m' → Ready t n start (s + 1) r m'
inserted {t} {n} rd {r} p f =
    record {
      square = rd.square;
      orders = rd.orders;
      handed_in = rd.handed_in;
      growing = record {
        marking = f.marking n (entry t n) (nums r.additions) (ints r.heads) p.way;
        under = p.growing.under;
        first = λ j hj q. p.growing.first j hj (f.unmarked n (entry t n) (nums r.additions) (ints r.heads) p.way j hj q);
        from_start = p.growing.from_start;
        least = p.growing.least;
      };
      top = p.top;
    }

-- ---- before the first insertion
pub first_ready : {t : List ℤ} {n : ℕ} {start : List ℕ} → Square t n → Startable t n start → {r : Raised} {m : Marked} → r.additions ≡ start
    → Heads n (entry t n) (nums start) (ints r.heads) → m.rows ≡ replicate row_limit row_limit → Ready t n (nums start) 0 r m
first_ready {t} {n} {start} square c {r} {m} e heads bare =
    record {
      square = square;
      orders = within order_limit n t square.square c.entries;
      handed_in = c.handed_in;
      growing = record {
        marking = record {
          row = λ j hj q. absurd (omega (arith, unmarked j hj));
          column = λ i hi. absurd (omega arith);
        };
        under = λ i j hi hj here.
            let f = heads j hj in
            rw (e, f.is) (f.maximum.unexceeded i hi here);
        first = λ j hj free. heads j hj;
        from_start = λ i hi. rw e (omega arith);
        least = λ k canon from i hi. rw e (from i hi);
      };
      top = λ i hi. rw e (omega (arith, c.handed_in i hi));
    }
  where
    unmarked : (j : ℕ) → j < n → nums m.rows j ≡ row_limit
    unmarked j hj = rw bare (get_or-replicate {A = ℕ} row_limit j row_limit 0 (omega (arith, square.small)))

-- ---- after the last: every row is marked, so every column is, and the marked places are a complete transversal of column maxima
module _ {t : List ℤ} {n : ℕ} {start : ℕ → ℕ} {r : Raised} {m : Marked} (rd : Ready t n start n r m) where
  column : (i : ℕ) → i < n → (nums m.columns i < n) × (nums m.rows (nums m.columns i) ≡ i)
  column = rd.growing.marking.column

  apart : (i k : ℕ) → i < n → k < n → nums m.columns i ≡ nums m.columns k → i ≡ k
  apart i k hi hk e = sym (column i hi).1 ∙ ap (nums m.rows) e ∙ (column k hk).1

  marked : (j : ℕ) → j < n → nums m.rows j < n
  marked j hj =
      let (i, hi, e) = onto n (nums m.columns) apart (λ i hi. (column i hi).0) j hj in
      omega (arith, (column i hi).1, ap (nums m.rows) e)

  tight : (i : ℕ) → i < n → Tight n (entry t n) (nums r.additions) (ints r.heads) i (nums m.columns i)
  tight i hi =
      let c = column i hi in
      rw c.1 at (rd.growing.marking.row (nums m.columns i) c.0 (marked (nums m.columns i) c.0)).2

  of_maxima : OfMaxima n (entry t n) (nums r.additions) (nums m.columns)
  of_maxima =
      record {
        transversal = record { inside = λ i hi. (column i hi).0; present = λ i hi. (tight i hi).present; apart = apart };
        maximum = λ i hi.
            record {
              present = (tight i hi).present;
              unexceeded = λ k hk here. rw (tight i hi).is (rd.growing.under k (nums m.columns i) hk (column i hi).0 here);
            };
      }

  pub grown_least : LeastBy t n start r.additions m.columns
  grown_least =
      record {
        least = record { canon = record { columns = nums m.columns; of_maxima = of_maxima }; from_start = rd.growing.from_start; least = rd.growing.least };
        canon = record { of_maxima = of_maxima; under_ceiling = λ i hi. omega (arith, rd.top i hi, rd.square.small) };
      }

  pub grown_marks : Marks n (nums m.rows) (nums m.columns)
  grown_marks =
      record {
        column = λ i hi. (column i hi).0;
        row = marked;
        back = λ i hi. (column i hi).1;
        forth = λ j hj. (rd.growing.marking.row j hj (marked j hj)).1;
      }
