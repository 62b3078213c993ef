-- No row is found yet. Assumes nothing.
use mathlib.Core.Path.{refl}
use Prim.Native.Nat.{ℕ}
use Rattle.theory.specs.Limits.{row_limit}
use Rattle.orders.proofs.Flags.{fresh}
use Rattle.ways.proofs.Ways.new.Goals as goal

pub returns : goal.returns
returns c = record {
  long = record { next = refl; step = refl; queue = refl };
  none = λ k h. fresh {X = ℕ} row_limit k 0;
}
