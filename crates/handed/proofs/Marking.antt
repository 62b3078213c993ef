-- The marks of a list of stars, one row after the other. Assumes nothing.
use mathlib.Core.Path.{◌≡◌, sym, ◌∙◌, ap}
use mathlib.Core.Bool.{Bool, true, false}
use mathlib.Core.List.{List}
use Prim.Native.Nat.{ℕ, ◌+◌, ◌-◌, ◌≤◌, ◌<◌}
use native.Mathlib.Omega.{arith}
use lib.ListN.{length, replicate, length-replicate}
use Rattle.std.specs.Prelude.{Some, None}
use Rattle.theory.specs.Limits.{row_limit}
use Rattle.theory.specs.Lists.{nums, flags, StarList}
use Rattle.theory.proofs.Pigeonhole.{onto}
use Rattle.orders.specs.Places.{Marks}
use Rattle.orders.proofs.Entries.{clash}
use Rattle.orders.proofs.Flags.{all_unset}
use Rattle.handed.specs.Conditions.{WrongStars, under_one, over_size, twice}
use Rattle.handed.specs.Handed.{Listed, ListedAs}

-- The first k stars stand and are marked both ways; a column that is taken has the mark of one of these rows.
pub record MarkedTo (n k : ℕ) (s row_of column_of : List ℕ) (taken : List Bool) : Type 0 where
  pub from_one : (i : ℕ) → i < k → 1 ≤ nums s i
  pub to_size : (i : ℕ) → i < k → nums s i ≤ n
  pub column : (i : ℕ) → i < k → nums column_of i ≡ nums s i - 1
  pub back : (i : ℕ) → i < k → nums row_of (nums s i - 1) ≡ i
  pub is_set : (i : ℕ) → i < k → flags taken (nums s i - 1) ≡ true
  pub row_marked : (j : ℕ) → flags taken j ≡ true → (nums row_of j < k) × (nums s (nums row_of j) ≡ j + 1)
  pub rows_long : length row_of ≡ row_limit
  pub columns_long : length column_of ≡ row_limit
  pub taken_long : length taken ≡ row_limit

pub marked_start : (n : ℕ) (s : List ℕ) → MarkedTo n 0 s (replicate row_limit 0) (replicate row_limit 0) (replicate row_limit false)
marked_start n s =
    record {
      from_one = λ i hi. absurd (omega arith);
      to_size = λ i hi. absurd (omega arith);
      column = λ i hi. absurd (omega arith);
      back = λ i hi. absurd (omega arith);
      is_set = λ i hi. absurd (omega arith);
      row_marked = λ j e. clash e (all_unset row_limit j);
      rows_long = length-replicate {A = ℕ} row_limit 0;
      columns_long = length-replicate {A = ℕ} row_limit 0;
      taken_long = length-replicate {A = Bool} row_limit false;
    }

-- a star outside 1 to n, or with the column of an earlier row
module _ {n k : ℕ} {s row_of column_of : List ℕ} {taken : List Bool} (m : MarkedTo n k s row_of column_of taken) (hk : k < n)
    (long : length s ≡ n) where
  pub marked_low : nums s k ≡ 0 → WrongStars n s
  marked_low e = under_one k (omega arith) (omega arith)

  pub marked_high : n < nums s k → WrongStars n s
  marked_high h = over_size k (omega arith) h

  pub marked_twice : 1 ≤ nums s k → flags taken (nums s k - 1) ≡ true → WrongStars n s
  marked_twice one t =
      let (lt, eq) = m.row_marked (nums s k - 1) t in
      twice (nums row_of (nums s k - 1)) k lt (omega arith) (omega arith)

-- All stars stand. A column's row is found by the pigeonhole: the columns of the n rows are apart.
module _ {n : ℕ} {s row_of column_of : List ℕ} {taken : List Bool} (long : length s ≡ n)
    (m : MarkedTo n n s row_of column_of taken) where
  marked_list : StarList n s
  marked_list =
      record {
        long = long;
        from_one = m.from_one;
        to_size = m.to_size;
        none_twice = λ i k hi hk e. sym (m.back i hi) ∙ ap (λ (x : ℕ). nums row_of (x - 1)) e ∙ m.back k hk;
      }

  inside : (i : ℕ) → i < n → nums column_of i < n
  inside i hi = omega (arith, m.column i hi, m.from_one i hi, m.to_size i hi)

  back : (i : ℕ) → i < n → nums row_of (nums column_of i) ≡ i
  back i hi = ap (nums row_of) (m.column i hi) ∙ m.back i hi

  marked_marks : Marks n (nums row_of) (nums column_of)
  marked_marks =
      record {
        column = inside;
        row = λ j hj. row j (hit j hj);
        back = back;
        forth = λ j hj. forth j (hit j hj);
      }
    where
      hit : (j : ℕ) → j < n → (i : ℕ) × (i < n) × (nums column_of i ≡ j)
      hit = onto n (nums column_of) (λ i k hi hk e. sym (back i hi) ∙ ap (nums row_of) e ∙ back k hk) inside

      row : (j : ℕ) → (i : ℕ) × (i < n) × (nums column_of i ≡ j) → nums row_of j < n
      row j (i, hi, e) = rw (← e, back i hi) hi

      forth : (j : ℕ) → (i : ℕ) × (i < n) × (nums column_of i ≡ j) → nums column_of (nums row_of j) ≡ j
      forth j (i, hi, e) = ap (λ (x : ℕ). nums column_of (nums row_of x)) (sym e) ∙ ap (nums column_of) (back i hi) ∙ e

  pub marked_end : ListedAs n s (Some (record { rows = row_of; columns = column_of }))
  marked_end =
      record {
        listed = λ p e. let h : record { rows = row_of; columns = column_of } ≡ p = cc in rw (sym h) all_marked;
        wrong = λ e. cc;
      }
    where
      all_marked : Listed n s (record { rows = row_of; columns = column_of })
      all_marked = record { star_list = marked_list; marks = marked_marks; same = λ i hi. m.column i hi }

-- a list that does not stand
pub marked_wrong : {n : ℕ} {s : List ℕ} → WrongStars n s → ListedAs n s None
marked_wrong f = record { listed = λ p e. cc; wrong = λ e. f }
