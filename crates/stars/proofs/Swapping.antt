-- Two rows exchange their columns. Assumes nothing.
use mathlib.Core.Path.{◌≡◌, sym, ◌∙◌, ap}
use mathlib.Core.Logic.{◌≢◌}
use mathlib.Core.List.{List}
use Prim.Native.Nat.{ℕ, ◌≤◌, ◌<◌}
use native.Mathlib.Decide.{ℕ_discrete}
use native.Mathlib.Omega.{arith}
use lib.ListN.{length, set, length-set}
use lib.Seq.{get_or-set_same, get_or-set_other}
use Rattle.theory.specs.Limits.{row_limit}
use Rattle.theory.specs.Lists.{nums}
use Rattle.orders.specs.Places.{Marks}
use Rattle.orders.specs.Held.{Long}
use Rattle.orders.specs.declared.marks.Marked.{Marked}
use Rattle.std.proofs.lemmas.List.Edits.{swapped_from_swap, length-swap}
use Rattle.stars.specs.Shift.{Swapped}

-- rows k and m have the columns of each other, and all else is as it was
pub record Swap (ρ σ ρ' σ' : ℕ → ℕ) (k m : ℕ) : Type 0 where
  pub left : σ' k ≡ σ m
  pub right : σ' m ≡ σ k
  pub rest : (x : ℕ) → x ≢ k → x ≢ m → σ' x ≡ σ x
  pub left_row : ρ' (σ m) ≡ k
  pub right_row : ρ' (σ k) ≡ m
  pub rest_row : (y : ℕ) → y ≢ σ k → y ≢ σ m → ρ' y ≡ ρ y

-- two rows with one column are the same
pub one_row : {n : ℕ} {ρ σ : ℕ → ℕ} → Marks n ρ σ → (x y : ℕ) → x < n → y < n → σ x ≡ σ y → x ≡ y
one_row {n} {ρ} w x y hx hy e = sym (w.back x hx) ∙ ap ρ e ∙ w.back y hy

module _ {n : ℕ} {ρ σ ρ' σ' : ℕ → ℕ} {k m : ℕ} (w : Marks n ρ σ) (s : Swap ρ σ ρ' σ' k m) (hk : k < n) (hm : m < n) where
  -- what holds of the two rows in exchange and of the others
  pub by_row : (P : ℕ → ℕ → Type 0) → P k (σ m) → P m (σ k) → ((x : ℕ) → x < n → x ≢ k → x ≢ m → P x (σ x)) → (x : ℕ) → x < n → P x (σ' x)
  by_row P left right rest x hx = go (ℕ_discrete x k) (ℕ_discrete x m)
    where
      go : Dec (x ≡ k) → Dec (x ≡ m) → P x (σ' x)
      go (yes e) d = rw (e, s.left) left
      go (no a) (yes e) = rw (e, s.right) right
      go (no a) (no b) = rw (s.rest x a b) (rest x hx a b)

  by_column : (P : ℕ → ℕ → Type 0) → P (σ m) k → P (σ k) m → ((y : ℕ) → y < n → y ≢ σ k → y ≢ σ m → P y (ρ y)) → (y : ℕ) → y < n
      → P y (ρ' y)
  by_column P left right rest y hy = go (ℕ_discrete y (σ k)) (ℕ_discrete y (σ m))
    where
      go : Dec (y ≡ σ k) → Dec (y ≡ σ m) → P y (ρ' y)
      go (yes e) d = rw (e, s.right_row) right
      go (no a) (yes e) = rw (e, s.left_row) left
      go (no a) (no b) = rw (s.rest_row y a b) (rest y hy a b)

  pub swap_marks : Marks n ρ' σ'
  swap_marks = record {
    column = by_row (λ x y. y < n) (w.column m hm) (w.column k hk) (λ x hx a b. w.column x hx);
    row = by_column (λ y x. x < n) hk hm (λ y hy a b. w.row y hy);
    back = by_row (λ x y. ρ' y ≡ x) s.left_row s.right_row
        (λ x hx a b. s.rest_row (σ x) (λ e. a (one_row w x k hx hk e)) (λ e. b (one_row w x m hx hm e)) ∙ w.back x hx);
    forth = by_column (λ y x. σ' x ≡ y) s.left s.right
        (λ y hy a b. s.rest (ρ y) (λ e. a (sym (w.forth y hy) ∙ ap σ e)) (λ e. b (sym (w.forth y hy) ∙ ap σ e)) ∙ w.forth y hy);
  }

-- two stores in an array, at different places
module _ (l l' : List ℕ) (x y v w : ℕ) (is : l' ≡ set (set l x v) y w) (apart : x ≢ y) where
  second_store : y < length l → nums l' y ≡ w
  second_store h = rw is (get_or-set_same (set l x v) y w 0 (rw (length-set l x v) h))

  first_store : x < length l → nums l' x ≡ v
  first_store h = rw is (get_or-set_other (set l x v) y x w 0 apart ∙ get_or-set_same l x v 0 h)

  no_store : (z : ℕ) → z ≢ x → z ≢ y → nums l' z ≡ nums l z
  no_store z a b = rw is (get_or-set_other (set l x v) y z w 0 b ∙ get_or-set_other l x z v 0 a)

-- the four stores of an exchange
module _ {n : ℕ} {w r : Marked} {k m : ℕ} (is : Swapped w k m r) (marks : Marks n (nums w.rows) (nums w.columns)) (small : n ≤ row_limit)
    (long_rows : Long w.rows) (long_columns : Long w.columns) (hk : k < n) (hm : m < n) (apart : k ≢ m) where
  other_columns : nums w.columns m ≢ nums w.columns k
  other_columns e = apart (sym (one_row marks m k hm hk e))

  pub swap_stores : Swap (nums w.rows) (nums w.columns) (nums r.rows) (nums r.columns) k m
  swap_stores =
      let a = nums w.columns k in
      let b = nums w.columns m in
      let c = marks.column k hk in
      let d = marks.column m hm in
      let s = swapped_from_swap w.columns r.columns k m 0 (omega (arith, long_columns)) (omega (arith, long_columns)) is.columns in
      let rows : r.rows ≡ set (set w.rows b k) a m = rw (s.0, s.1) at is.rows in
      record {
        left = s.0;
        right = s.1;
        rest = s.2;
        left_row = first_store w.rows r.rows b a k m rows other_columns (omega arith);
        right_row = second_store w.rows r.rows b a k m rows other_columns (omega arith);
        rest_row = λ y na nb. no_store w.rows r.rows b a k m rows other_columns y nb na;
      }

  pub swap_long_rows : Long r.rows
  swap_long_rows = ap length is.rows ∙ simp length-set long_rows

  pub swap_long_columns : Long r.columns
  swap_long_columns = ap length is.columns ∙ length-swap w.columns k m ∙ long_columns
