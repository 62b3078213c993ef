-- Labels, and how the lent buffers hold them.
use Rattle.std.specs.Prelude.{◌≡◌, ◌≢◌, List, [], ◌∷◌, ◌++◌, ℕ, ◌+◌, ◌*◌, ◌-◌, ◌≤◌, ◌<◌, length, get_or, take, drop, replicate}
use Rattle.sheet.specs.Text.{Each}

-- the bytes of a label: "letters or digits"
pub data LetterOrDigit (b : ℕ) : Type 0 where
  digit : 48 ≤ b → b ≤ 57 → LetterOrDigit b
  capital : 65 ≤ b → b ≤ 90 → LetterOrDigit b
  small : 97 ≤ b → b ≤ 122 → LetterOrDigit b

-- "8 bytes a label"
abbrev pub width : ℕ
width = 8

-- "A label is 1 to 8 letters or digits"
pub record Form (l : List ℕ) : Type 0 where
  pub some : 1 ≤ length l
  pub few : length l ≤ width
  pub letters : Each LetterOrDigit l

-- "unlike every other of its section": unlike those before it
abbrev pub New : List (List ℕ) → List ℕ → Type 0
New ls l = (k : ℕ) → k < length ls → get_or ls k [] ≢ l

-- the labels of one section
pub record Labels (ls : List (List ℕ)) : Type 0 where
  pub form : (k : ℕ) → k < length ls → Form (get_or ls k [])
  pub apart : (i k : ℕ) → i < k → k < length ls → get_or ls i [] ≢ get_or ls k []

-- a label "filled up with zero bytes"
abbrev pub filled : List ℕ → List ℕ
filled l = l ++ replicate (width - length l) 0

-- labels one after the other in a buffer, "8 bytes a label"
unfoldable pub slots : List (List ℕ) → List ℕ
slots [] = []
slots (l ∷ ls) = filled l ++ slots ls

-- the 8 bytes of label k in a buffer
abbrev pub slot : List ℕ → ℕ → List ℕ
slot b k = take width (drop (width * k) b)

-- the bytes of label k stand in an earlier place too
pub record Repeated (b : List ℕ) (k : ℕ) : Type 0 where
  pub inside : width * k + width ≤ length b
  pub earlier : ℕ
  pub before : earlier < k
  pub alike : slot b earlier ≡ slot b k
