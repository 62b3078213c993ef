-- No sheet is longer than the reader takes. The limits stand here by name: `limits_fit` is computed from them. Assumes nothing.
use mathlib.Core.Path.{◌≡◌, refl, ap, ◌∙◌}
use mathlib.Core.Bool.{Bool, true, false}
use mathlib.Core.List.{List, [], ◌∷◌, ◌++◌}
use Prim.Native.Nat.{ℕ, suc, ◌+◌, ◌*◌, ◌/◌, ◌%◌, ◌<◌, ◌≤◌}
use native.Mathlib.Omega.{arith}
use native.Mathlib.Nat.{mul-le-mul, mul-suc}
use lib.IntN.{ℤ, pos, negsuc}
use lib.ListN.{length, length-append}
use Rattle.theory.specs.Limits.{row_limit, order_limit, sheet_limit}
use Rattle.theory.specs.Table.{Present, Order, Entries}
use Rattle.theory.proofs.Signed.{signed as signs}
use Rattle.orders.proofs.Places.{row_inside, col_inside}
use Rattle.sheet.specs.Text.{feed, digits, text, signed, ended, rows_head, cols_head, orders_head}
use Rattle.sheet.specs.Sheet.{Labelled, Stands, ended_lines, is_absent, present_count, order_lines, counted_lines, sheet_of}
use Rattle.sheet.proofs.Numbers.{text_mono}
use Rattle.sheet.proofs.Orders.{sheet_bytes, count_le, absent_not, entries_right}
use Rattle.sheet.proofs.Slots.{Short, short_tail, labels_short}
use Rattle.labels.specs.Parts.{label_most}
use Rattle.order_lines.specs.Parts.{order_bytes, entry_bytes}
use Rattle.order_lines.proofs.OrderLaws.{order_text_length, line_absent, line_present, bytes_cons}
use Rattle.writer.specs.Parts.{order_section}

-- the most bytes of an order line: two numbers up to the limit of rows, an order with its minus, and three bytes between and behind them
abbrev order_most : ℕ
order_most = length (text row_limit) + length (text row_limit) + (length (text order_limit) + 1) + 3

-- the most bytes of a sheet: three headings, N labels twice, N × N orders
limits_fit : length rows_head + length (text row_limit) + 1 + label_most * row_limit + (length cols_head + length (text row_limit) + 1 + label_most * row_limit)
    + (length orders_head + length (text (row_limit * row_limit)) + 1 + order_most * (row_limit * row_limit))
    ≤ sheet_limit
unfolding text digits
limits_fit = omega arith

lines_short : (ls : List (List ℕ)) → Short ls → length (ended_lines ls) ≤ label_most * length ls
unfolding ended_lines
lines_short [] s = omega arith
lines_short (l ∷ ls) s =
    omega (
      arith,
      lines_short ls (short_tail l ls s),
      s 0 (omega arith),
      length-append (ended l) (ended_lines ls),
      length-append l (feed ∷ []),
    )

signed_short : (v : ℤ) → Order order_limit v → length (signed v) ≤ length (text order_limit) + 1
signed_short (pos n) o = omega (arith, text_mono order_limit n (omega (arith, signs, o.high)))
signed_short (negsuc n) o = omega (arith, text_mono order_limit (suc n) (omega (arith, signs, o.low)))

line_short : (n p : ℕ) (v : ℤ) (t : Bool) → is_absent v ≡ t → n ≤ row_limit → p < n * n
    → (Present v → Order order_limit v) → length (entry_bytes n p v) ≤ order_most
line_short n p v true e h g o = omega (arith, ap length (line_absent n p v e))
line_short n p v false e h g o =
    omega (
      arith,
      ap length (line_present n p v e),
      order_text_length (p / n) (p % n) v,
      text_mono row_limit (p / n + 1) (omega (arith, row_inside n p g)),
      text_mono row_limit (p % n + 1) (omega (arith, col_inside n p g)),
      signed_short v (o (absent_not v e)),
    )

orders_short : (n p : ℕ) (e : List ℤ) → n ≤ row_limit → p + length e ≤ n * n → Entries order_limit e → length (order_bytes n p e) ≤ order_most * length e
unfolding ended_lines order_lines
orders_short n p [] h g s = omega arith
orders_short n p (v ∷ e) h g s =
    omega (
      arith,
      ap length (bytes_cons n p v e),
      orders_short n (suc p) e h (omega arith) (entries_right (v ∷ []) e s),
      line_short n p v (is_absent v) refl h (omega arith) (s 0 (omega arith)),
      length-append (entry_bytes n p v) (order_bytes n (suc p) e),
      mul-suc order_most (length e),
    )

heading_length : (h : List ℕ) (c : ℕ) → length (ended (h ++ text c)) ≡ length h + length (text c) + 1
heading_length h c = length-append (h ++ text c) (feed ∷ []) ∙ omega (arith, length-append h (text c))

pub sheet_fits : (t : Labelled) → Stands t → length (sheet_of t) ≤ sheet_limit
sheet_fits t w =
    let n = length t.row_labels in
    let m = length t.col_labels in
    let e = t.entries in
    let q : n * n ≤ row_limit * row_limit = mul-le-mul {n₁ = n} {m₁ = n} {n₂ = row_limit} {m₂ = row_limit} w.few w.few in
    let r : order_most * length e ≤ order_most * (row_limit * row_limit) =
    mul-le-mul {n₁ = order_most} {m₁ = length e} {n₂ = order_most} {m₂ = row_limit * row_limit} (omega arith) (omega (arith, w.square)) in
    omega (
      arith,
      limits_fit,
      ap length (sheet_bytes t),
      length-append (counted_lines rows_head t.row_labels) (counted_lines cols_head t.col_labels ++ order_section n e),
      length-append (ended (rows_head ++ text n)) (ended_lines t.row_labels),
      length-append (counted_lines cols_head t.col_labels) (order_section n e),
      length-append (ended (cols_head ++ text m)) (ended_lines t.col_labels),
      length-append (ended (orders_head ++ text (present_count e))) (order_bytes n 0 e),
      heading_length rows_head n,
      heading_length cols_head m,
      heading_length orders_head (present_count e),
      text_mono row_limit n w.few,
      text_mono row_limit m (omega (arith, w.few, w.same)),
      text_mono (row_limit * row_limit) (present_count e) (omega (arith, count_le e, w.square)),
      lines_short t.row_labels (labels_short t.row_labels w.rows_stand),
      lines_short t.col_labels (labels_short t.col_labels w.cols_stand),
      orders_short n 0 e w.few (omega (arith, w.square)) w.entries_stand,
      w.few,
      w.same,
    )
