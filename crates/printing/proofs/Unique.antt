-- No second answer and no second memory meets the promise of printing. Assumes nothing.
use mathlib.Core.Path.{◌≡◌, sym, ap, ◌∙◌}
use mathlib.Core.List.{List, [], ◌∷◌}
use Prim.Native.Nat.{ℕ, ◌<◌}
use native.Mathlib.Omega.{arith}
use lib.IntN.{ℤ, pos}
use lib.ListN.{length, take}
use lib.Seq.{ext_get_or}
use Rattle.theory.specs.Lists.{nums, columns, StarList}
use Rattle.theory.specs.Table.{entry}
use Rattle.theory.specs.Canon.{NoTransversal}
use Rattle.theory.proofs.Index.{index_once}
use Rattle.theory.proofs.Unique.{solution_once}
use Rattle.theory.proofs.Ties.{ties_once}
use Rattle.std.specs.Prelude.{Result}
use Rattle.orders.specs.Refusals.{Said, gives, refuses, says}
use Rattle.orders.specs.declared.Refusal.{Refusal}
use Rattle.orders.proofs.Refusals.{says_once}
use Rattle.sheet.specs.Text.{over}
use Rattle.sheet.proofs.Matching.{labelled_once}
use Rattle.sheet.proofs.FirstWrong.{first_once}
use Rattle.page.specs.Printed.{Figures, figures, printed}
use Rattle.printing.specs.Promise.{FiguresOf, TableSays, no_transversal, solved, SheetSays, too_long, wrong_line, of_table}
use Rattle.printing.specs.Promise.{PrintPromise, no_room, wrote, InputPromise}
use Rattle.printing.proofs.Inputs.{own_input}

-- two star lists with the same columns are the same numbers
star_same : (n : ℕ) (a b : List ℕ) → StarList n a → StarList n b → (i : ℕ) → i < n → columns a i ≡ columns b i → nums a i ≡ nums b i
star_same n a b s t i h e = omega (arith, s.from_one i h, t.from_one i h)

-- a table has one set of figures
figures_once : (n : ℕ) (t : List ℤ) (f g : Figures) → FiguresOf n t f → FiguresOf n t g → f ≡ g
figures_once n t f g p q =
    let o = solution_once n (entry t n) p.solution q.solution in
    let a : f.adds ≡ g.adds = ext_get_or 0 f.adds g.adds (p.adds_long ∙ sym q.adds_long)
    (λ i h. o.additions i (omega (arith, p.adds_long))) in
    let s : f.stars ≡ g.stars = ext_get_or 0 f.stars g.stars (p.star_list.long ∙ sym q.star_list.long)
    (λ i h.
    let k : i < n = omega (arith, p.star_list.long) in
    star_same n f.stars g.stars p.star_list q.star_list i k (o.stars i k)) in
    let z : f.heads ≡ g.heads = ext_get_or (pos 0) f.heads g.heads (p.heads_long ∙ sym q.heads_long)
    (λ i h. o.heads i (omega (arith, p.heads_long))) in
    let c : f.ties ≡ g.ties = ext_get_or 0 f.ties g.ties (p.ties_long ∙ sym q.ties_long)
    (λ i h. ties_once n (entry t n) o.additions p.is_ties q.is_ties i (omega (arith, p.ties_long))) in
    let v : f.sum ≡ g.sum = o.one_sum in
    let x : f.index ≡ g.index = index_once n (entry t n) o.additions p.is_index q.is_index in
    ap (λ y. figures y f.stars f.heads f.ties f.sum f.index) a
    ∙ ap (λ y. figures g.adds y f.heads f.ties f.sum f.index) s
    ∙ ap (λ y. figures g.adds g.stars y f.ties f.sum f.index) z
    ∙ ap (λ y. figures g.adds g.stars g.heads y f.sum f.index) c
    ∙ ap (λ y. figures g.adds g.stars g.heads g.ties y f.index) v
    ∙ ap (figures g.adds g.stars g.heads g.ties g.sum) x

-- a table with figures has a complete transversal
some_transversal : {X : Type 0} (n : ℕ) (t : List ℤ) (f : Figures) → FiguresOf n t f → NoTransversal n (entry t n) → X
some_transversal n t f p none = absurd (none (columns f.stars) p.solution.stars.of_maxima.transversal)

table_once : (n : ℕ) (t : List ℤ) (a b : Said Figures) → TableSays n t a → TableSays n t b → a ≡ b
table_once n t a b (no_transversal u e) (no_transversal v f) = e ∙ sym f
table_once n t a b (no_transversal u e) (solved g p f) = some_transversal n t g p u
table_once n t a b (solved g p e) (no_transversal v f) = some_transversal n t g p v
table_once n t a b (solved g p e) (solved h q f) = e ∙ ap gives (figures_once n t g h p q) ∙ sym f

-- a sheet has one answer
pub sheet_once : (s : List ℕ) (a b : Said Figures) → SheetSays s a → SheetSays s b → a ≡ b
sheet_once s a b (too_long l e) (too_long m f) = e ∙ sym f
sheet_once s a b (too_long l e) (wrong_line k m r f) = absurd (m l)
sheet_once s a b (too_long l e) (of_table t m r p) = absurd (m l)
sheet_once s a b (wrong_line k l r e) (too_long m f) = absurd (l m)
sheet_once s a b (wrong_line k l r e) (wrong_line j m q f) = e ∙ ap (λ x. refuses 10 (x ∷ [])) (first_once s k j r q) ∙ sym f
sheet_once s a b (wrong_line k l r e) (of_table t m q p) = absurd (r.no_sheet t q)
sheet_once s a b (of_table t l r p) (too_long m f) = absurd (l m)
sheet_once s a b (of_table t l r p) (wrong_line k m q f) = absurd (q.no_sheet t r)
sheet_once s a b (of_table t l r p) (of_table u m q o) =
    let c : t ≡ u = labelled_once r q in
    table_once (length u.row_labels) u.entries a b (rw c at p) o

-- Uniqueness of printing: two results with two memories that both meet the statement are the same result and the same memory.
pub print_once : (s room p q : List ℕ) (a b : Result ℕ Refusal) → PrintPromise s room p (says a) → PrintPromise s room q (says b) → (a ≡ b) × (p ≡ q)
print_once s room p q a b (no_room x h l e f) (no_room y g m d k) = (says_once a b (e ∙ sym d), f ∙ sym k)
print_once s room p q a b (no_room x h l e f) (wrote y g m d k) =
    let c : length (printed x) ≡ length (printed y) = ap (λ i. length (printed i)) (sheet_once s x y h g) in absurd (omega arith)
print_once s room p q a b (wrote x h l e f) (no_room y g m d k) =
    let c : length (printed x) ≡ length (printed y) = ap (λ i. length (printed i)) (sheet_once s x y h g) in absurd (omega arith)
print_once s room p q a b (wrote x h l e f) (wrote y g m d k) =
    let c : x ≡ y = sheet_once s x y h g in
    (says_once a b (e ∙ ap (λ i. gives (length (printed i))) c ∙ sym d), f ∙ ap (λ i. over (printed i) room) c ∙ sym k)

-- Uniqueness of the program's work: two lengths with two memories that both meet the statement are the same. A buffer is at least
-- what was read of its own first bytes, so the statement is never empty.
pub input_once : (buffer : List ℕ) (n : ℕ) (room p q : List ℕ) (r s : ℕ) → InputPromise buffer n room p r → InputPromise buffer n room q s → (r ≡ s) × (p ≡ q)
input_once buffer n room p q r s f g =
    let x = f.answers (take n buffer) (own_input buffer n) in
    let y = g.answers (take n buffer) (own_input buffer n) in
    let c : x.said ≡ y.said = sheet_once (take n buffer) x.said y.said x.holds y.holds in (
      x.puts.is_length ∙ ap (λ a. length (printed a)) c ∙ sym y.puts.is_length,
      x.puts.is ∙ ap (λ a. over (printed a) room) c ∙ sym y.puts.is,
    )
