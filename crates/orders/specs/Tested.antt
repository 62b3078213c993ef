-- What a test in code tells of a statement.
use Rattle.std.specs.Prelude.{◌≡◌, Bool, true, false}

-- b is true exactly when P holds
pub record Tells (b : Bool) (P : Type 0) : Type 0 where
  pub holds : b ≡ true → P
  pub fails : b ≡ false → P → ⊥
