-- The case that document 01 shows whole: "This one (a rod pendulum, labels ours) .. prints exactly". Document 02 changes it: request 1, "the
-- printed answer gets a section `ties N` after `heads`", and request 2, "Document 01's printed case then ends `index 1`, `3`"; all else is
-- document 01's, byte by byte.
use Rattle.std.specs.Prelude.{List, ℕ}
use Rattle.sheet.specs.Text.{ascii}

abbrev pub pendulum_sheet : List ℕ
pendulum_sheet =
    ascii "rows 3\nfx\nfy\nrod\ncols 3\nx\ny\npull\norders 6\n1 1 2\n1 3 0\n2 2 2\n2 3 0\n3 1 0\n3 2 0\n"

abbrev pub pendulum_answer : List ℕ
pendulum_answer = ascii "adds 3\n0\n0\n2\nstars 3\n1\n3\n2\nheads 3\n2\n2\n0\nties 3\n2\n2\n2\nsum 1\n2\nindex 1\n3\n"
