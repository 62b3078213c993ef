-- Bytes put over the front of a lent room.
use Rattle.std.specs.Prelude.{◌≡◌, List, ℕ, length}
use Rattle.sheet.specs.Text.{over}

-- a text was written over the front of a room, and r is its length
pub record Puts (text room room' : List ℕ) (r : ℕ) : Type 0 where
  pub is_length : r ≡ length text
  pub is : room' ≡ over text room
