-- What the public calls answer: a value, or a refusal. `says` of orders/specs/Refusals gives document 01's number and values for each case.
use Rattle.std.specs.Prelude.{Bool, ℤ, Result}
use Rattle.orders.specs.declared.Refusal.{Refusal}

-- "Each returns the sum", or a refusal
abbrev pub Answer : Type 0
Answer = Result ℤ Refusal

-- "says yes exactly when ..", or a refusal
abbrev pub Verdict : Type 0
Verdict = Result Bool Refusal

-- that the lent slices are filled, with no value beside; or a refusal
abbrev pub Filled : Type 0
Filled = Result Unit Refusal
