-- The bytes of a sheet: numbers, headings, lines. "all ASCII, every line ended by one line feed".
use Rattle.std.specs.Prelude.{ℕ, zero, suc, ◌+◌, ◌/◌, ◌%◌, ◌≤◌, ◌<◌, cond, List, [], ◌∷◌, ◌++◌, ltb, ℤ, pos, negsuc, length, get_or, drop}
use Prim.Native.Char.{code}
use Prim.Native.String as string
use Prim.Native.String.{String}

abbrev pub feed : ℕ
feed = 10

abbrev pub blank : ℕ
blank = 32

abbrev pub minus : ℕ
minus = 45

-- the bytes of an ASCII text
abbrev pub ascii : String → List ℕ
ascii string.[] = []
ascii (string.◌∷◌ c s) = code c ∷ ascii s

-- `rows `, `cols ` and `orders `
abbrev pub rows_head : List ℕ
rows_head = ascii "rows "

abbrev pub cols_head : List ℕ
cols_head = ascii "cols "

abbrev pub orders_head : List ℕ
orders_head = ascii "orders "

-- at most f decimal digits of n, the last ones, the most significant first
unfoldable pub digits : ℕ → ℕ → List ℕ
digits zero n = []
digits (suc f) n = cond (ltb n 10) ((48 + n) ∷ []) (digits f (n / 10) ++ ((48 + n % 10) ∷ []))

-- "Numbers are decimal, no leading zero, no plus": a number n has at most n + 1 digits
unfoldable pub text : ℕ → List ℕ
text n = digits (suc n) n

-- "minus only before a number that isn't 0"
abbrev pub signed : ℤ → List ℕ
signed (pos n) = text n
signed (negsuc n) = minus ∷ text (suc n)

-- "every line ended by one line feed"
abbrev pub ended : List ℕ → List ℕ
ended l = l ++ feed ∷ []

-- each byte of a text is of this kind
abbrev pub Each : (ℕ → Type 0) → List ℕ → Type 0
Each P l = (k : ℕ) → k < length l → P (get_or l k 0)

-- a room in which a text was written over the front, where "later entries and bytes stay"
abbrev pub over : {A : Type 0} → List A → List A → List A
over text room = text ++ drop (length text) room

-- a decimal digit, and a text that does not begin with one
abbrev pub Digit : ℕ → Type 0
Digit b = (48 ≤ b) × (b ≤ 57)

abbrev pub NoDigit : List ℕ → Type 0
NoDigit s = 0 < length s → Digit (get_or s 0 0) → ⊥
