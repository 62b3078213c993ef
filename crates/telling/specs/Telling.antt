-- How a call of the C interface tells an answer: by what it returns, and by what its single results then hold.
use Rattle.std.specs.Prelude.{◌≡◌, Bool, true, false, List, [], ◌∷◌, ℕ}
use Rattle.orders.specs.Refusals.{Said, gives, refuses}

-- The return value is 0 or document 01's refusal number, and a single result is written only on success: r is what is returned,
-- and before and after are what the single result holds before and after the call, where a value x is written as code x
pub data Returns {X Y : Type 0} (code : X → Y) (said : Said X) (r : ℕ) (before after : Y) : Type 0 where
  gave : (x : X) → said ≡ gives x → r ≡ 0 → after ≡ code x → Returns code said r before after
  kept_back : (k : ℕ) (values : List ℕ) → said ≡ refuses k values → r ≡ k → after ≡ before → Returns code said r before after

-- a value that is written as it is
abbrev pub itself : {X : Type 0} → X → X
itself x = x

-- what the single result of a call holds that has none
abbrev pub no_result : Unit {0}
no_result = tt

-- 1 or 0
abbrev pub bit : Bool → ℕ
bit true = 1
bit false = 0

-- The reader has two single results: N, written only on success, and the line, written for refusal 10 alone.
pub data ReturnsRead (a : Said ℕ) (r n line n' line' : ℕ) : Type 0 where
  read : (k : ℕ) → a ≡ gives k → r ≡ 0 → n' ≡ k → line' ≡ line → ReturnsRead a r n line n' line'
  at_line : (k : ℕ) → a ≡ refuses 10 (k ∷ []) → r ≡ 10 → n' ≡ n → line' ≡ k → ReturnsRead a r n line n' line'
  refused : (k : ℕ) → a ≡ refuses k [] → r ≡ k → n' ≡ n → line' ≡ line → ReturnsRead a r n line n' line'
