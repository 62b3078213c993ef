-- Totals over the numbers below n, and counts. Rows and columns are counted from 0 in all definitions and proofs, and from 1 in what is
-- lent, read and printed.
use Rattle.std.specs.Prelude.{ℕ, zero, suc, ◌+◌, ℤ, pos, ◌+ℤ◌}

-- f 0 + .. + f (n − 1), of natural numbers
unfoldable pub totalℕ : ℕ → (ℕ → ℕ) → ℕ
totalℕ zero f = 0
totalℕ (suc n) f = totalℕ n f + f n

-- f 0 + .. + f (n − 1), of signed numbers
unfoldable pub total : ℕ → (ℕ → ℤ) → ℤ
total zero f = pos 0
total (suc n) f = total n f +ℤ f n

-- c of the numbers below n have the property P
pub data Count (P : ℕ → Type 0) : ℕ → ℕ → Type 0 where
  none : Count P 0 0
  one_more : {n c : ℕ} → Count P n c → P n → Count P (suc n) (suc c)
  passed_over : {n c : ℕ} → Count P n c → (P n → ⊥) → Count P (suc n) c
