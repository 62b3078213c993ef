-- Head, lowest row and count of a column: one more row taken in, and what follows of the whole column. Assumes nothing.
use mathlib.Core.Path.{◌≡◌, refl, sym, ◌∙◌, ap}
use mathlib.Core.Logic.{◌≢◌}
use Prim.Native.Nat.{ℕ, zero, suc, ◌+◌, ◌≤◌, ◌<◌}
use native.Mathlib.Decide.{ℕ_discrete, dec_lt}
use native.Mathlib.Omega.{arith}
use lib.IntN.{ℤ, pos, neg_ℤ, ◌+ℤ◌}
use lib.Signed.{◌≤ℤ◌, ◌<ℤ◌, ≤ℤ_refl}
use Rattle.theory.specs.Table.{Present, WithinLimit}
use Rattle.theory.specs.Totals.{one_more, passed_over}
use Rattle.theory.specs.Canon.{AtMost, NoTransversal, raised, Maximum, Canon, Head, LowestHolder, Holders, EmptyColumn, ColumnHead, held, empty, Ties}
use Rattle.theory.proofs.Signed.{signed, plus, below_zero}
use Rattle.theory.proofs.Counts.{count_once, count_same, count_none, count_some}
use Rattle.theory.proofs.Pigeonhole.{onto}
use Rattle.theory.proofs.Decisions.{present_known, less_known, not_less}
use Rattle.theory.proofs.Unique.{Same, maximum_same}
use Rattle.theory.proofs.Bounds.{head_low}

-- ---- row k taken in after the rows below k
module _ (a : ℕ → ℕ → ℤ) (l : ℕ → ℕ) (j k : ℕ) where
  -- the raised order of a row
  abbrev Height : ℕ → ℤ
  Height x = raised k a l x j

  -- the rows below k + 1 are the rows below k and row k
  pub upto : {P : ℕ → Type 0} → ((x : ℕ) → x < k → P x) → P k → (x : ℕ) → x < suc k → P x
  upto {P} below here x hx = elim (ℕ_discrete x k) [ yes e ↦ rw e here | no ne ↦ below x (omega arith) ]

  -- Row k is present, and above every row before it: it alone holds the head.
  module _ (here : Present (a k j)) (above : (x : ℕ) → x < k → Present (a x j) → Height x <ℤ Height k) where
    none_before : (x : ℕ) → x < k → Maximum (suc k) a l x j → ⊥
    none_before x hx m = omega (arith, signed, above x hx m.present, m.unexceeded k (omega arith) here)

    new_maximum : Maximum (suc k) a l k j
    new_maximum =
        record {
          present = here;
          unexceeded = upto {P = λ x. Present (a x j) → Height x ≤ℤ Height k} (λ x hx p. omega (arith, signed, above x hx p)) (λ p. ≤ℤ_refl (Height k));
        }

    pub new_holder : LowestHolder (suc k) a l j k
    new_holder = record { inside = omega arith; maximum = new_maximum; lowest = none_before }

    pub new_count : Holders (suc k) a l j 1
    new_count = one_more (count_none k none_before) new_maximum

  -- Row i is the lowest that holds the head of the rows below k, and row k does not pass it: then row i still is.
  module _ {i : ℕ} (o : LowestHolder k a l j i) (under : Present (a k j) → Height k ≤ℤ Height i) where
    stays : (x : ℕ) → x < k → Maximum k a l x j → Maximum (suc k) a l x j
    stays x hx m =
        record {
          present = m.present;
          unexceeded = upto {P = λ y. Present (a y j) → Height y ≤ℤ Height x} m.unexceeded (λ p.
              omega (arith, signed, under p, m.unexceeded i o.inside o.maximum.present));
        }

    stood : (x : ℕ) → x < k → Maximum (suc k) a l x j → Maximum k a l x j
    stood x hx m = record { present = m.present; unexceeded = λ y hy. m.unexceeded y (omega arith) }

    pub old_holder : LowestHolder (suc k) a l j i
    old_holder =
        record {
          inside = omega (arith, o.inside);
          maximum = stays i o.inside o.maximum;
          lowest = λ x hx m. o.lowest x hx (stood x (omega (arith, o.inside)) m);
        }

    -- with row k, if it is present and reaches the head,
    pub count_more : {c : ℕ} → Holders k a l j c → Present (a k j) → Height k ≡ Height i → Holders (suc k) a l j (suc c)
    count_more s p e =
        one_more (count_same k stays stood s) (record {
          present = p;
          unexceeded = λ x hx q. omega (arith, signed, old_holder.maximum.unexceeded x hx q);
        })

    -- and without it otherwise
    pub count_kept : {c : ℕ} → Holders k a l j c → (Present (a k j) → Height k <ℤ Height i) → Holders (suc k) a l j c
    count_kept s lt =
        passed_over (count_same k stays stood s) (λ m.
        omega (arith, signed, lt m.present, m.unexceeded i (omega (arith, o.inside)) o.maximum.present))

-- ---- a whole column
-- head, row and count are the same
pub record OneHead (h h' : ℤ) (row row' c c' : ℕ) : Type 0 where
  pub one_head : h ≡ h'
  pub one_row : row ≡ row'
  pub one_count : c ≡ c'

module _ (n : ℕ) (a : ℕ → ℕ → ℤ) where
  module _ {l : ℕ → ℕ} {j : ℕ} where
    -- no two rows are the lowest
    lowest_once : {i k : ℕ} → LowestHolder n a l j i → LowestHolder n a l j k → i ≡ k
    lowest_once {i} {k} s t =
        elim (dec_lt i k) [
          | yes lt ↦ absurd (t.lowest i lt s.maximum)
          | no ge ↦ elim (dec_lt k i) [ yes lt ↦ absurd (s.lowest k lt t.maximum) | no le ↦ omega arith ]
        ]

    -- where no order is present, no row holds a maximum
    pub empty_holders : EmptyColumn n a j → Holders n a l j 0
    empty_holders none-there = count_none n (λ i hi m. none-there i hi m.present)

    -- the count is that of the rows with a maximum, in an empty column too
    pub head_holders : {h : ℤ} {row c : ℕ} → ColumnHead n a l j h row c → Holders n a l j c
    head_holders (held i o e r s) = s
    head_holders (empty f e r z) = rw z (empty_holders f)

    -- a column with a present order has the row of its lowest holder and the head that this row holds; one without has zeros
    pub head_lowest : {h : ℤ} {row c : ℕ} → ColumnHead n a l j h row c → (EmptyColumn n a j → ⊥)
        → (i : ℕ) × LowestHolder n a l j i × (row ≡ i + 1) × (h ≡ raised n a l i j)
    head_lowest (held i o e r s) some = (i, o, r, e)
    head_lowest (empty f e r z) some = absurd (some f)

    pub head_empty : {h : ℤ} {row c : ℕ} → ColumnHead n a l j h row c → EmptyColumn n a j → (h ≡ pos 0) × (row ≡ 0) × (c ≡ 0)
    head_empty (held i o e r s) none-there = absurd (none-there i o.inside o.maximum.present)
    head_empty (empty f e r z) none-there = (e, r, z)

    -- head, row and count are determined
    pub column_head_once : {h h' : ℤ} {row row' c c' : ℕ} → ColumnHead n a l j h row c → ColumnHead n a l j h' row' c' → OneHead h h' row row' c c'
    column_head_once (held i o e r s) (held k q f u t) =
        let same = lowest_once o q in
        record { one_head = e ∙ ap (λ x. raised n a l x j) same ∙ sym f; one_row = r ∙ ap (λ x. x + 1) same ∙ sym u; one_count = count_once s t }
    column_head_once (held i o e r s) (empty f x y z) = absurd (f i o.inside o.maximum.present)
    column_head_once (empty f x y z) (held i o e r s) = absurd (f i o.inside o.maximum.present)
    column_head_once (empty f x y z) (empty g x' y' z') = record { one_head = x ∙ sym x'; one_row = y ∙ sym y'; one_count = z ∙ sym z' }

    -- the row is 0 exactly where no order is present; elsewhere the head is one
    pub no_row : {h : ℤ} {row c : ℕ} → ColumnHead n a l j h row c → row ≡ 0 → EmptyColumn n a j
    no_row (held k o e r s) z = absurd (omega arith)
    no_row (empty f e r c) z = f

    -- a complete transversal would take an order there
    pub no_row_none : {h : ℤ} {row c : ℕ} → ColumnHead n a l j h row c → j < n → row ≡ 0 → NoTransversal n a
    no_row_none t hj z σ s =
        let (i, hi, e) = onto n σ s.apart s.inside j hj in
        no_row t z i hi (rw e at (s.present i hi))

    pub row_head : {h : ℤ} {row c : ℕ} → ColumnHead n a l j h row c → row ≢ 0 → Head n a l j h
    row_head (held k o e r s) some = record { row = k; inside = o.inside; maximum = o.maximum; is = e }
    row_head (empty f e r z) some = absurd (some r)

    pub column_head : {h : ℤ} {row c i : ℕ} → ColumnHead n a l j h row c → i < n → Present (a i j) → Head n a l j h
    column_head {i = i} t hi p = row_head t (λ z. no_row t z i hi p)

    -- Under a canon every count is at least 1: each column has a row of the transversal of maxima.
    pub canon_holders : {c : ℕ} → Canon n a l → j < n → Holders n a l j c → 1 ≤ c
    canon_holders m hj s =
        let o = m.of_maxima in
        let (i, hi, e) = onto n m.columns o.transversal.apart o.transversal.inside j hj in
        count_some n s i hi (rw e at (o.maximum i hi))

-- Every column of any table has its head, row and count, so the definition asks for nothing that is not there: the rows are taken in one
-- after the other. (The code does the same from a height below every order of 16 bits, which a table of any numbers has not.)
pub record Found (n : ℕ) (a : ℕ → ℕ → ℤ) (l : ℕ → ℕ) (j : ℕ) : Type 0 where
  pub head : ℤ
  pub row : ℕ
  pub count : ℕ
  pub is : ColumnHead n a l j head row count

pub column_head_exists : (n : ℕ) (a : ℕ → ℕ → ℤ) (l : ℕ → ℕ) (j : ℕ) → Found n a l j
column_head_exists zero a l j = record { head = pos 0; row = 0; count = 0; is = empty (λ i hi. absurd (omega arith)) refl refl refl }
column_head_exists (suc k) a l j =
    let f = column_head_exists k a l j in elim (present_known (a k j)) [ yes here ↦ present here f.is | no out ↦ out_of out f.is ]
  where
    new : Present (a k j) → ((x : ℕ) → x < k → Present (a x j) → raised k a l x j <ℤ raised k a l k j) → Found (suc k) a l j
    new here above =
        record {
          head = raised k a l k j;
          row = k + 1;
          count = 1;
          is = held k (new_holder a l j k here above) refl refl (new_count a l j k here above);
        }

    kept : {i c : ℕ} (o : LowestHolder k a l j i) → Holders k a l j c → (Present (a k j) → raised k a l k j <ℤ raised k a l i j) → Found (suc k) a l j
    kept {i} {c} o s lt =
        let under : Present (a k j) → raised k a l k j ≤ℤ raised k a l i j = λ p. omega (arith, signed, lt p) in
        record {
          head = raised k a l i j;
          row = i + 1;
          count = c;
          is = held i (old_holder a l j k o under) refl refl (count_kept a l j k o under s lt);
        }

    more : {i c : ℕ} (o : LowestHolder k a l j i) → Holders k a l j c → Present (a k j) → raised k a l k j ≡ raised k a l i j → Found (suc k) a l j
    more {i} {c} o s here e =
        let under : Present (a k j) → raised k a l k j ≤ℤ raised k a l i j = λ p. omega (arith, signed, e) in
        record {
          head = raised k a l i j;
          row = i + 1;
          count = suc c;
          is = held i (old_holder a l j k o under) refl refl (count_more a l j k o under s here e);
        }

    out_of : {h : ℤ} {row c : ℕ} → (Present (a k j) → ⊥) → ColumnHead k a l j h row c → Found (suc k) a l j
    out_of out (held i o e r s) = kept o s (λ p. absurd (out p))
    out_of out (empty f e r z) =
        record { head = pos 0; row = 0; count = 0; is = empty (upto a l j k {P = λ x. Present (a x j) → ⊥} f out) refl refl refl }

    present : {h : ℤ} {row c : ℕ} → Present (a k j) → ColumnHead k a l j h row c → Found (suc k) a l j
    present here (held i o e r s) =
        elim (less_known (raised k a l i j) (raised k a l k j)) [
          | yes lt ↦ new here (λ x hx p. omega (arith, signed, lt, o.maximum.unexceeded x hx p))
          | no ge ↦
              elim (less_known (raised k a l k j) (raised k a l i j)) [
                | yes lt ↦ kept o s (λ p. lt)
                | no le ↦ more o s here (omega (arith, signed, not_less _ _ ge, not_less _ _ le))
              ]
        ]
    present here (empty f e r z) = new here (λ x hx p. absurd (f x hx p))

-- ---- counts under additions
module _ (n : ℕ) (a : ℕ → ℕ → ℤ) where
  -- "a count is 0 exactly when the column has no order": a column with an order has a head, which some row holds
  pub none_holds : {l : ℕ → ℕ} {j : ℕ} → Holders n a l j 0 → EmptyColumn n a j
  none_holds {l} {j} s i hi p =
      let f = column_head_exists n a l j in
      let t = column_head n a f.is hi p in
      omega (arith, count_some n s t.row t.inside t.maximum)

  -- additions that agree in the rows have the same counts
  pub holders_same : {l m : ℕ → ℕ} {j c : ℕ} → Same n a l m → Holders n a l j c → Holders n a m j c
  holders_same {l} {m} e s = count_same n (λ i hi. maximum_same n a e hi) (λ i hi. maximum_same n a (λ x hx. sym (e x hx)) hi) s

  pub column_head_same : {l m : ℕ → ℕ} {j : ℕ} {h : ℤ} {row c : ℕ} → Same n a l m → ColumnHead n a l j h row c → ColumnHead n a m j h row c
  column_head_same {l} {m} {j} e (held i o is r s) =
      held i
      (record {
        inside = o.inside;
        maximum = maximum_same n a e o.inside o.maximum;
        lowest = λ k hk c. o.lowest k hk (maximum_same n a (λ x hx. sym (e x hx)) (omega (arith, o.inside)) c);
      })
      (is ∙ ap (λ (x : ℕ). a i j +ℤ pos x) (e i o.inside)) r (holders_same e s)
  column_head_same e (empty f is r z) = empty f is r z

  -- orders within a limit, raised by at most B, have heads within both together
  pub column_head_within : {limit B : ℕ} {l : ℕ → ℕ} {j : ℕ} {h : ℤ} {row c : ℕ} → WithinLimit limit n a → AtMost n l (λ i. B) → j < n
      → ColumnHead n a l j h row c → (neg_ℤ (pos limit) ≤ℤ h) × (h ≤ℤ pos (B + limit))
  column_head_within {limit} {B} {l} {j} w low hj (held i o e r s) = (
    head_low n a w hj (record { row = i; inside = o.inside; maximum = o.maximum; is = e }),
    omega (arith, signed, e, plus (a i j) (pos (l i)), (w i j o.inside hj o.maximum.present).high, low i o.inside),
  )
  column_head_within {limit} w low hj (empty f e r z) = (omega (arith, signed, e, below_zero limit), omega (arith, signed, e))

  pub ties_once : {l m c d : ℕ → ℕ} → Same n a l m → Ties n a l c → Ties n a m d → Same n a c d
  ties_once e s t j hj = count_once (holders_same e (s j hj)) (t j hj)
