-- Room for every printed answer (`answers_fit`).
use Rattle.std.specs.Prelude.{ℕ, ◌+◌, ◌*◌}
use Rattle.theory.specs.Limits.{row_limit}

-- a line: a sign, the ten digits of a number of 32 bits, and a line feed
abbrev pub line_room : ℕ
line_room = 12

-- a heading: a name of ten bytes, a blank, a count of four digits, and a line feed
abbrev pub heading_room : ℕ
heading_room = 16

-- a section: its heading, and a line for every row
abbrev pub section_room : ℕ
section_room = heading_room + row_limit * line_room

-- ten sections, with some to spare
abbrev pub sections_most : ℕ
sections_most = 10

abbrev pub enough : ℕ
enough = sections_most * section_room
