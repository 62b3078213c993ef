-- When a label that is handed in is wrong.
use Rattle.std.specs.Prelude.{◌≡◌, List, ℕ, ◌<◌}
use Rattle.sheet.specs.Labels.{Form, filled, slot, Repeated}

-- a label of one section "is malformed or repeated": the bytes in its place of the buffer are those of no label "filled up with zero
-- bytes", or stand in an earlier place too
pub data WrongIn (n : ℕ) (b : List ℕ) : Type 0 where
  malformed : (k : ℕ) → k < n → ((l : List ℕ) → Form l → slot b k ≡ filled l → ⊥) → WrongIn n b
  repeated : (k : ℕ) → k < n → Repeated b k → WrongIn n b
