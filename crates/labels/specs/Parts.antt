-- What the functions of this crate tell each other and the writer.
use Rattle.std.specs.Prelude.{◌≡◌, ◌≢◌, Bool, true, false, not, List, [], ◌∷◌, ℕ, zero, suc, ◌+◌, ◌≤◌, ◌<◌, eqb, length, get_or, take, drop, take_while}
use Rattle.sheet.specs.Labels.{width, Form, slot}
use Rattle.labels.specs.Wrong.{WrongIn}

-- the bytes before the first zero byte
unfoldable pub label_of : List ℕ → List ℕ
label_of s = take_while (λ b. not (eqb b 0)) s

-- the labels in the first n places of a buffer
unfoldable pub labels_of : ℕ → List ℕ → List (List ℕ)
labels_of zero b = []
labels_of (suc n) b = label_of (take width b) ∷ labels_of n (drop width b)

-- a place holds a label, filled up with zero bytes
pub record SlotStands (s : List ℕ) : Type 0 where
  pub form : Form (label_of s)
  pub zeros : (k : ℕ) → length (label_of s) ≤ k → k < length s → get_or s k 0 ≡ 0

-- the first n places of a buffer hold labels, no two alike
pub record BufferStands (n : ℕ) (b : List ℕ) : Type 0 where
  pub forms : (k : ℕ) → k < n → SlotStands (slot b k)
  pub apart : (i k : ℕ) → i < k → k < n → slot b i ≢ slot b k

-- r tells whether the first n places of a buffer hold labels, or one of these is malformed or repeated
pub record LabelsTold (n : ℕ) (b : List ℕ) (r : Bool) : Type 0 where
  pub stand : r ≡ true → BufferStands n b
  pub wrong : r ≡ false → WrongIn n b

-- no sum of lengths passes 64 bits: the most bytes of a label line
abbrev pub label_most : ℕ
label_most = width + 1
