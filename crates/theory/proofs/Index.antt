-- The index figure: the largest addition row by row, that there is one figure at most, and where it differs from the largest addition.
-- Assumes nothing.
use mathlib.Core.Path.{◌≡◌, refl, sym}
use mathlib.Core.Logic.{◌⊎◌, inl, inr}
use Prim.Native.Nat.{ℕ, ◌+◌, ◌≤◌, ◌<◌}
use native.Mathlib.Omega.{arith}
use borrow.Author.Count.{below_more}
use lib.IntN.{ℤ, pos}
use Rattle.theory.specs.Canon.{Heads, LargestAddition, SomeHeadZero, SomeNegative, StructuralIndex, plus_one, alone, Index, follows, keeps}
use Rattle.theory.proofs.Duality.{head_once}
use Rattle.theory.proofs.Unique.{Same, head_same}

-- ---- the largest addition of one row more
module _ {l : ℕ → ℕ} where
  pub largest_first : LargestAddition 1 l (l 0)
  largest_first =
      record { row = 0; inside = omega arith; is = refl; largest = λ i hi. let e : i ≡ 0 = omega arith in rw e (omega arith) }

  module _ {k x : ℕ} (o : LargestAddition k l x) where
    pub largest_kept : l k ≤ x → LargestAddition (k + 1) l x
    largest_kept le =
        record { row = o.row; inside = omega (arith, o.inside); is = o.is; largest = below_more (λ i. l i ≤ x) k o.largest le }

    pub largest_new : x < l k → LargestAddition (k + 1) l (l k)
    largest_new lt =
        record {
          row = k;
          inside = omega arith;
          is = refl;
          largest = below_more (λ i. l i ≤ l k) k (λ i hi. omega (arith, o.largest i hi)) (omega arith);
        }

module _ (n : ℕ) (a : ℕ → ℕ → ℤ) where
  -- ---- at most one figure
  pub largest_once : {l m : ℕ → ℕ} {x y : ℕ} → Same n a l m → LargestAddition n l x → LargestAddition n m y → x ≡ y
  largest_once e s t =
      omega (
        arith,
        s.is,
        t.is,
        s.largest t.row t.inside,
        t.largest s.row s.inside,
        e s.row s.inside,
        e t.row t.inside,
      )

  zero_same : {l m : ℕ → ℕ} → Same n a l m → SomeHeadZero n a l → SomeHeadZero n a m
  zero_same e z = record { column = z.column; inside = z.inside; head = head_same n a e z.head }

  structural_once : {l m : ℕ → ℕ} {x y : ℕ} → Same n a l m → StructuralIndex n a l x → StructuralIndex n a m y → x ≡ y
  structural_once e (plus_one p z s is) (plus_one q w t js) = omega (arith, largest_once e s t)
  structural_once e (plus_one p z s is) (alone none t) = absurd (none (zero_same e z))
  structural_once e (alone none s) (plus_one q w t js) = absurd (none (zero_same (λ i hi. sym (e i hi)) w))
  structural_once e (alone none s) (alone neither t) = largest_once e s t

  pub index_once : {l m : ℕ → ℕ} {x y : ℕ} → Same n a l m → Index n a l x → Index n a m y → x ≡ y
  index_once e (follows none s) (follows neither t) = structural_once e s t
  index_once e (follows none s) (keeps some t) = absurd (none some)
  index_once e (keeps some s) (follows none t) = absurd (none some)
  index_once e (keeps some s) (keeps other t) = largest_once e s t

  -- ---- the figure beside the largest addition
  module _ {l : ℕ → ℕ} {most : ℕ} (o : LargestAddition n l most) where
    same_largest : {y : ℕ} → LargestAddition n l y → y ≡ most
    same_largest t = largest_once {l = l} {m = l} (λ i hi. refl) t o

    -- it is the largest addition or one more
    pub index_near : {x : ℕ} → Index n a l x → (x ≡ most) ⊎ (x ≡ most + 1)
    index_near (follows none (plus_one p z s is)) = inr (omega (arith, same_largest s))
    index_near (follows none (alone no_zero s)) = inl (same_largest s)
    index_near (keeps some s) = inl (same_largest s)

    -- where an order is negative it is the largest addition
    pub index_kept : {x : ℕ} → SomeNegative n a → Index n a l x → x ≡ most
    index_kept some (follows none s) = absurd (none some)
    index_kept some (keeps other s) = same_largest s

    -- where none is, and some head is 0, it is one more
    pub index_more : {x : ℕ} → (SomeNegative n a → ⊥) → SomeHeadZero n a l → Index n a l x → x ≡ most + 1
    index_more none z (follows neither (plus_one p w s is)) = omega (arith, same_largest s)
    index_more none z (follows neither (alone no_zero s)) = absurd (no_zero z)
    index_more none z (keeps some s) = absurd (none some)

    -- and it is one more only there
    pub more_only : {x : ℕ} → Index n a l x → x ≡ most + 1 → (SomeNegative n a → ⊥) × SomeHeadZero n a l
    more_only (follows none (plus_one p z s is)) e = (none, z)
    more_only (follows none (alone no_zero s)) e = absurd (omega (arith, same_largest s))
    more_only (keeps some s) e = absurd (omega (arith, same_largest s))

  -- it is at most one more than the addition of some row
  pub index_low : {l : ℕ → ℕ} {x : ℕ} → Index n a l x → (i : ℕ) × (i < n) × (x ≤ l i + 1)
  index_low (follows none (plus_one p z s is)) = (s.row, s.inside, omega (arith, s.is))
  index_low (follows none (alone no_zero s)) = (s.row, s.inside, omega (arith, s.is))
  index_low (keeps some s) = (s.row, s.inside, omega (arith, s.is))

  -- ---- heads that are known
  -- where the heads are h, some head is 0 exactly when some h j is
  pub head_zero_from : {l : ℕ → ℕ} {h : ℕ → ℤ} → Heads n a l h → (j : ℕ) → j < n → h j ≡ pos 0 → SomeHeadZero n a l
  head_zero_from heads j hj e = record { column = j; inside = hj; head = rw e at (heads j hj) }

  pub head_zero_at : {l : ℕ → ℕ} {h : ℕ → ℤ} → Heads n a l h → SomeHeadZero n a l → (j : ℕ) × (j < n) × (h j ≡ pos 0)
  head_zero_at heads z = (z.column, z.inside, head_once n a (heads z.column z.inside) z.head)
