-- What the functions inside the writer tell each other.
use Rattle.std.specs.Prelude.{List, ◌++◌, ℕ, ℤ}
use Rattle.sheet.specs.Text.{text, ended, rows_head, cols_head, orders_head}
use Rattle.sheet.specs.Sheet.{present_count, ended_lines}
use Rattle.labels.specs.Parts.{labels_of}
use Rattle.order_lines.specs.Parts.{order_bytes}
use Rattle.writer.specs.declared.labelled.Labelled.{Labelled}

-- a section of labels: its heading with the count n, and the labels in the first n places of a buffer
abbrev pub label_section : List ℕ → ℕ → List ℕ → List ℕ
label_section head n b = ended (head ++ text n) ++ ended_lines (labels_of n b)

-- the sheet of what is handed, as it is written section by section
abbrev pub order_section : ℕ → List ℤ → List ℕ
order_section n t = ended (orders_head ++ text (present_count t)) ++ order_bytes n 0 t

abbrev pub rest_text : ℕ → List ℤ → List ℕ → List ℕ
rest_text n t c = label_section cols_head n c ++ order_section n t

abbrev pub sheet_text : ℕ → List ℤ → List ℕ → List ℕ → List ℕ
sheet_text n t r c = label_section rows_head n r ++ rest_text n t c

-- the same of a labelled table that is handed on
abbrev pub text_of : Labelled → List ℕ
text_of h = sheet_text h.table.n h.table.entries.now h.rows.bytes.now h.cols.bytes.now
