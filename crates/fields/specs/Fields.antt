-- Lines, numbers and fields at the front of a text, in the words of document 01's "The sheet".
use Rattle.std.specs.Prelude.{◌≡◌, ◌≢◌, List, ◌∷◌, ◌++◌, ℕ, ◌+◌, ◌*◌, ◌^◌, ◌≤◌, ◌<◌, ℤ, length, get_or, take, drop}
use Rattle.std.specs.Prelude.{Option, MatchOption}
use Rattle.theory.specs.Table.{Order}
use Rattle.sheet.specs.Text.{feed, blank, NoDigit, text, signed}
use Rattle.sheet.specs.Reading.{Ended}
use Rattle.fields.specs.declared.Front.{Front}

-- ---- what an answer tells
-- what is found has P; or nothing has
abbrev pub Finds : {X : Type 0} → (X → Type 0) → Option X → Type 0
Finds P r = MatchOption r ((x : _) → P x → ⊥) P

-- the first line feed of s is at r, or s has none and r is its length
pub record BeforeFeed (s : List ℕ) (r : ℕ) : Type 0 where
  pub inside : r ≤ length s
  pub none : (k : ℕ) → k < r → get_or s k 0 ≢ feed
  pub here : r < length s → get_or s r 0 ≡ feed

-- a limit up to which numbers can be read: ten times it and one digit more fit 64 bits
abbrev pub Readable : ℕ → Type 0
Readable limit = limit * 10 + 9 < 2 ^ 64

-- ---- what a text is
-- the first e bytes of s are its first line, which a line feed ends
pub record LineIs (s : List ℕ) (e : ℕ) : Type 0 where
  pub ended : Ended s (take e s) (drop (e + 1) s)
  pub inside : e < length s

-- a number stands at the front of s and takes so many bytes; another digit does not follow
pub record FrontIs (s : List ℕ) (limit : ℕ) (f : Front) : Type 0 where
  pub small : f.value ≤ limit
  pub inside : f.taken ≤ length s
  pub parts : s ≡ text f.value ++ drop f.taken s
  pub stops : NoDigit (drop f.taken s)

-- a number from 1 on stands at the front of s, and both it and the blank after it are taken
pub record FieldIs (s : List ℕ) (limit : ℕ) (f : Front) : Type 0 where
  pub some : 1 ≤ f.value
  pub small : f.value ≤ limit
  pub inside : f.taken ≤ length s
  pub parts : s ≡ text f.value ++ blank ∷ drop f.taken s

-- s is the number v
pub record NumberIs (s : List ℕ) (limit v : ℕ) : Type 0 where
  pub small : v ≤ limit
  pub is : s ≡ text v

-- s is the number v, which may be below 0
pub record SignedIs (s : List ℕ) (limit : ℕ) (v : ℤ) : Type 0 where
  pub small : Order limit v
  pub is : s ≡ signed v

-- the line l is these bytes and then the number c
pub record CountAfter (l head : List ℕ) (low high c : ℕ) : Type 0 where
  pub least : low ≤ c
  pub most : c ≤ high
  pub is : l ≡ head ++ text c
