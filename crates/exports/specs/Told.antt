-- A call of the C interface: some answer keeps the promise of the call behind it, and that answer is what is told.
use Rattle.std.specs.Prelude.{ℕ}
use Rattle.orders.specs.Refusals.{Said}
use Rattle.telling.specs.Telling.{Returns, ReturnsRead}

-- A call with one single result, which holds before at the call and after when it returns r.
pub record Told {Answer X Y : Type 0} (promise : Answer → Type 0) (said : Answer → Said X) (code : X → Y) (r : ℕ) (before after : Y) : Type 0 where
  pub answer : Answer
  pub promised : promise answer
  pub told : Returns code (said answer) r before after

-- The reader's call, with two single results: N and the line.
pub record ToldRead {Answer : Type 0} (promise : Answer → Type 0) (said : Answer → Said ℕ) (r n line n' line' : ℕ) : Type 0 where
  pub answer : Answer
  pub promised : promise answer
  pub told : ReturnsRead (said answer) r n line n' line'
