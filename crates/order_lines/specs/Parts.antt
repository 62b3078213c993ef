-- What the functions of this crate tell each other and the writer.
use Rattle.std.specs.Prelude.{cond, List, [], ◌∷◌, ◌++◌, ℕ, ◌+◌, ◌/◌, ◌%◌, ℤ}
use Rattle.sheet.specs.Text.{blank, text, signed, ended}
use Rattle.sheet.specs.Sheet.{is_absent, order_text, ended_lines, order_lines}

-- the bytes of the order lines from place p on; those of one entry, none where it is absent; and the end of such a line
abbrev pub order_bytes : ℕ → ℕ → List ℤ → List ℕ
order_bytes n p e = ended_lines (order_lines n p e)

abbrev pub entry_bytes : ℕ → ℕ → ℤ → List ℕ
entry_bytes n p v = cond (is_absent v) [] (ended (order_text (p / n) (p % n) v))

abbrev pub order_end : ℕ → ℕ → ℤ → List ℕ
order_end n p v = (text (p % n + 1) ++ blank ∷ []) ++ ended (signed v)

-- No sum of lengths passes 64 bits: the most bytes of a number of 64 bits, of one of 16 bits with its sign, and of an order line with its
-- two blanks and its line feed.
abbrev pub number_most : ℕ
number_most = 20

abbrev pub value_most : ℕ
value_most = 6

abbrev pub line_most : ℕ
line_most = number_most + number_most + value_most + 3
