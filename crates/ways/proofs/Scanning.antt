-- The steps of the search over the lists of the code. Assumes nothing.
use mathlib.Core.Path.{◌≡◌, refl, ◌∙◌, ap}
use mathlib.Core.List.{List}
use mathlib.Core.Logic.{◌≢◌}
use Prim.Native.Nat.{ℕ, ◌+◌, ◌≤◌, ◌<◌}
use native.Mathlib.Decide.{ℕ_discrete}
use native.Mathlib.Omega.{arith}
use borrow.Author.Count.{below_more}
use lib.ListN.{length, set, length-set}
use Rattle.std.proofs.lemmas.List.Edits.{swapped_from_swap, length-swap}
use Rattle.theory.specs.Lists.{nums}
use Rattle.theory.specs.Canon.{Maximum}
use Rattle.theory.specs.Paths.{Leads}
use Rattle.theory.specs.Limits.{row_limit}
use Rattle.ways.specs.Search.{AllFound, MoreFound, LongWays, Unsearched, RowsFrom, Joined, RowsFoundIn, Scanned}
use Rattle.ways.specs.declared.raised.Raised.{Raised}
use Rattle.ways.specs.declared.Ways.{Ways}
use Rattle.ways.specs.Parts.{size, order_at, added}
use Rattle.ways.proofs.Joining.{Passed, passed_all, found_more, more_found, left_fewer, passed_found, found_first, left_first}
use Rattle.orders.proofs.Stores.{Put, put_nums}
use Rattle.orders.specs.Held.{Long}

-- a store in an array, as an equation gives it
put_is : (l l' : List ℕ) (k v : ℕ) → l' ≡ set l k v → k < length l → Put (nums l) (nums l') k v
put_is l l' k v e h = rw e (put_nums l k v h)

length_is : (l l' : List ℕ) (k v : ℕ) → l' ≡ set l k v → Long l → Long l'
length_is l l' k v e h = ap length e ∙ length-set l k v ∙ h

long_join : {w r : Ways} {place m : ℕ} → LongWays w → Joined w place m r → LongWays r
long_join {w} {r} {place} {m} h j = record {
  next = length_is w.next r.next (nums w.queue place) m j.next h.next;
  step = length_is w.step r.step (nums w.queue place) (w.count + 1) j.step h.step;
  queue = ap length j.queue ∙ length-swap w.queue place w.count ∙ h.queue;
}

-- The places behind the rows found are passed up to place p: their rows have no maximum in the column of row m.
pub record ScannedTo (g : Raised) (i : ℕ) (column_of : List ℕ) (m p : ℕ) (w r : Ways) : Type 0 where
  pub ways : RowsFoundIn g i column_of r
  pub grown : MoreFound (size g) (nums w.step) (nums w.queue) w.count (nums r.step) (nums r.queue) r.count
  pub behind : r.count ≤ p
  pub passed : Passed (size g) (order_at g) (added g) (nums r.queue) (nums column_of m) r.count p

-- the columns of the first `at` rows found are scanned
pub record SearchedTo (g : Raised) (i : ℕ) (column_of : List ℕ) (at : ℕ) (w : Ways) : Type 0 where
  pub ways : RowsFoundIn g i column_of w
  pub scanned : (p : ℕ) → p < at → AllFound (size g) (order_at g) (added g) i (nums column_of (nums w.queue p)) (nums w.step)

module _ {g : Raised} {i : ℕ} {columns : List ℕ} where
  -- ---- one column is scanned
  module _ {m p : ℕ} {w r : Ways} (s : ScannedTo g i columns m p w r) where
    pub scan_row : i + p < size g → nums r.queue p < size g
    scan_row inside = s.ways.left.row p s.behind inside

    pub scan_next : (Maximum (size g) (order_at g) (added g) (nums r.queue p) (nums columns m) → ⊥) → ScannedTo g i columns m (p + 1) w r
    scan_next new = record {
      ways = s.ways;
      grown = s.grown;
      behind = omega (arith, s.behind);
      passed = below_more _ p s.passed (λ h. new);
    }

    pub scan_join : {r' : Ways} → i + p < size g → m < size g → 0 < nums w.step m → nums columns m < size g
        → Maximum (size g) (order_at g) (added g) (nums r.queue p) (nums columns m) → Joined r p m r' → ScannedTo g i columns m (p + 1) w r'
    scan_join {r'} inside hm known column max j =
        let long = s.ways.long in
        let f = s.ways.ways in
        let left = s.ways.left in
        let b = s.behind in
        let k = nums r.queue p in
        let hk = scan_row inside in
        let known' = s.grown.kept m hm known in
        let other : k ≢ m = λ e. omega (arith, ap (nums r.step) e, left.none p b inside) in
        let lead : Leads (size g) (Maximum (size g) (order_at g) (added g)) (nums columns) m k =
        record { from = hm; column = column; to = hk; another = other; holds = max } in
        let pn = put_is r.next r'.next k m j.next (omega (arith, long.next)) in
        let ps = put_is r.step r'.step k (r.count + 1) j.step (omega (arith, long.step)) in
        let pq = swapped_from_swap r.queue r'.queue p r.count 0 (omega (arith, long.queue)) (omega (arith, long.queue, b)) j.queue in
        record {
          ways = record {
            long = long_join long j;
            ways = rw j.count (found_more f left b inside refl known' lead pn ps pq);
            left = rw j.count (left_fewer f left b inside refl known' lead pn ps pq);
          };
          grown = rw j.count (more_found f left b inside refl known' lead pn ps pq s.grown);
          behind = omega (arith, j.count, b);
          passed = rw j.count (passed_found f left b inside refl known' lead pn ps pq s.passed);
        }

    pub scan_end : size g ≤ i + p → Scanned g i columns m w r
    scan_end end = record { ways = s.ways; grown = s.grown; all = passed_all s.ways.ways s.ways.left p end s.passed }

  -- ---- the columns of all rows found are scanned
  pub search_start : {w r : Ways} {queue : List ℕ} → i < size g → Unsearched (size g) w → RowsFrom row_limit i queue
      → Joined (record w { queue = queue; count = 0 }) 0 i r → SearchedTo g i columns 0 r
  search_start {w} {r} {queue} hi u f j =
      let long = u.long in
      let none = u.none in
      let small : size g ≤ row_limit = g.table.square.small in
      let first : nums queue 0 ≡ i = omega (arith, f.row 0 (omega arith)) in
      let ps : Put (nums w.step) (nums r.step) i 1 = put_is w.step r.step i 1 (rw first at j.step) (omega (arith, long.step)) in
      let pq = swapped_from_swap queue r.queue 0 0 0 (omega (arith, f.long)) (omega (arith, f.long)) j.queue in
      let same : (p : ℕ) → i + p < size g → nums r.queue p ≡ i + p = λ p h. elim (ℕ_discrete p 0) [
        | yes e ↦ rw e (pq.0 ∙ f.row 0 (omega arith))
        | no ne ↦ pq.2 p ne ne ∙ f.row p (omega arith)
      ] in
      record {
        ways = record {
          long = long_join (record { next = long.next; step = long.step; queue = f.long }) j;
          ways = rw j.count
              (found_first (size g) (order_at g) (added g) i (nums columns) (nums r.next) (nums r.step) (nums r.queue) (nums w.step) hi
              none ps (omega (arith, same 0 (omega arith))));
          left = rw j.count (left_first (size g) i (nums r.step) (nums r.queue) (nums w.step) hi none ps (λ p h hp. same p hp));
        };
        scanned = λ p h. absurd (omega arith);
      }

  module _ {at : ℕ} {w : Ways} (s : SearchedTo g i columns at w) where
    pub search_next : {r : Ways} → at < w.count → Scanned g i columns (nums w.queue at) w r → SearchedTo g i columns (at + 1) r
    search_next {r} h more = record {
      ways = more.ways;
      scanned = λ p hp. elim (ℕ_discrete p at) [
        | yes e ↦ rw (e, more.grown.same at h) more.all
        | no ne ↦ rw (more.grown.same p (omega arith)) (λ x hi hx t. more.grown.kept x hx (s.scanned p (omega arith) x hi hx t))
      ];
    }
