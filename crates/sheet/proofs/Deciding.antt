-- Every byte string has an outcome, a table or a wrong line, and the checker computes it: what a line says is read off its bytes, and
-- then whether it can stand is a matter of comparisons. Assumes nothing.
use mathlib.Core.Path.{◌≡◌, refl, sym, ap, subst, subst⁻¹, ◌∙◌}
use mathlib.Core.Logic.Dec
use mathlib.Core.Logic.{◌≢◌, ◌⊎◌, inl, inr}
use mathlib.Core.Bool.{false, cond}
use mathlib.Core.List.{List, [], ◌∷◌, ◌++◌}
use Prim.Native.Nat.{ℕ, zero, suc, ◌+◌, ◌-◌, ◌*◌, ◌≤◌, ◌<◌}
use native.Mathlib.Decide.{ℕ_discrete, dec_le, dec_lt}
use native.Mathlib.Omega.{arith}
use borrow.Author.Tests.{ne_eqb}
use lib.Dec.{eqb}
use lib.IntN.{ℤ, pos, negsuc, neg_ℤ}
use lib.ListN.{length, get_or, drop, length-append}
use Rattle.theory.specs.Limits.{row_limit, order_limit}
use Rattle.theory.specs.Table.{Order}
use Rattle.theory.proofs.Signed.{signed as signs}
use Rattle.sheet.specs.Text.{Each, feed, blank, minus, text, signed, rows_head, cols_head, orders_head, Digit}
use Rattle.sheet.specs.Labels.{LetterOrDigit, digit, capital, small, width, Form, New}
use Rattle.sheet.specs.Sheet.{Labelled, order_text, IsSheet}
use Rattle.sheet.specs.Reading.{Ended, Section, opening, of_rows, of_cols, of_orders, State, start, Heading, After, heading}
use Rattle.sheet.specs.Reading.{row_label, col_label, order_line, begun, with_row, with_col, with_order, table_of, Outcome, good}
use Rattle.sheet.specs.Reading.{wrong, Reads, done, short, unfit, next}
use Rattle.sheet.specs.FirstWrong.{FirstWrong}
use Rattle.sheet.proofs.Numbers.{text_digits, text_some, value_from, value_text}
use Rattle.sheet.proofs.Slots.{letter_low, letter_gap, letter_gap_2, letter_high}
use Rattle.sheet.proofs.Lines.{Unbroken, Cut, unbroken, broken, cut, rank, SameOrder}
use Rattle.sheet.proofs.Matching.{read_is_written}
use Rattle.sheet.proofs.FirstWrong.{wrong_is_first}

-- ---- decisions that compute
unfoldable turned : {A B : Type 0} → (A → B) → (B → A) → Dec A → Dec B
turned f g (yes a) = yes (f a)
turned f g (no h) = no (λ b. h (g b))

unfoldable same_text : (a b : List ℕ) → Dec (a ≡ b)
same_text [] [] = yes refl
same_text [] (d ∷ b) = no (λ e. omega (arith, ap length e))
same_text (c ∷ a) [] = no (λ e. omega (arith, ap length e))
same_text (c ∷ a) (d ∷ b) = go (ℕ_discrete c d) (same_text a b)
  where
    go : Dec (c ≡ d) → Dec (a ≡ b) → Dec (c ∷ a ≡ d ∷ b)
    go (yes p) (yes q) = yes (λ i. p i ∷ q i)
    go (yes p) (no q) = no (λ e. q (ap (λ l. drop 1 l) e))
    go (no p) r = no (λ e. p (ap (λ l. get_or l 0 0) e))

unfoldable all_dec : {A : Type 0} (z : A) (P : A → Type 0) → ((a : A) → Dec (P a)) → (l : List A) → Dec ((k : ℕ) → k < length l → P (get_or l k z))
all_dec z P dec [] = yes (λ k h. absurd (omega arith))
all_dec z P dec (a ∷ l) = go (dec a) (all_dec z P dec l)
  where
    go : Dec (P a) → Dec ((k : ℕ) → k < length l → P (get_or l k z)) → Dec ((k : ℕ) → k < suc (length l) → P (get_or (a ∷ l) k z))
    go (yes p) (yes q) = yes (λ k. elim k as (λ m. m < suc (length l) → P (get_or (a ∷ l) m z)) [ zero ↦ λ h. p | suc i ↦ λ h. q i (omega arith) ])
    go (yes p) (no q) = no (λ f. q (λ k h. f (suc k) (omega arith)))
    go (no p) r = no (λ f. p (f 0 (omega arith)))

-- ---- labels
unfoldable letter_dec : (b : ℕ) → Dec (LetterOrDigit b)
letter_dec b = go (dec_le 48 b) (dec_le b 57) (dec_le 65 b) (dec_le b 90) (dec_le 97 b) (dec_le b 122)
  where
    go : Dec (48 ≤ b) → Dec (b ≤ 57) → Dec (65 ≤ b) → Dec (b ≤ 90) → Dec (97 ≤ b) → Dec (b ≤ 122) → Dec (LetterOrDigit b)
    go (no p) q r s t u = no (λ l. p (letter_low b l))
    go (yes p) (yes q) r s t u = yes (digit p q)
    go (yes p) (no q) (no r) s t u = no (λ l. letter_gap b (omega arith) (omega arith) l)
    go (yes p) (no q) (yes r) (yes s) t u = yes (capital r s)
    go (yes p) (no q) (yes r) (no s) (no t) u = no (λ l. letter_gap_2 b (omega arith) (omega arith) l)
    go (yes p) (no q) (yes r) (no s) (yes t) (yes u) = yes (small t u)
    go (yes p) (no q) (yes r) (no s) (yes t) (no u) = no (λ l. u (letter_high b l))

unfoldable label_dec : (ls : List (List ℕ)) (l : List ℕ) → Dec (Form l × New ls l)
unfolding turned Dec.and Dec.not same_text all_dec letter_dec
label_dec ls l =
    Dec.and
    (turned (λ w. record { some = w.0; few = w.1.0; letters = w.1.1 }) (λ f. (f.some, (f.few, f.letters)))
    (Dec.and (dec_le 1 (length l)) (Dec.and (dec_le (length l) width) (all_dec 0 LetterOrDigit letter_dec l))))
    (all_dec [] (λ k. k ≢ l) (λ k. Dec.not (same_text k l)) ls)

-- ---- headings: the count is the value of what stands behind the name
abbrev head_of : Section → List ℕ
head_of opening = rows_head
head_of of_rows = cols_head
head_of of_cols = orders_head
head_of of_orders = []

abbrev count_of : Section → List ℕ → ℕ
count_of s l = value_from 0 (drop (length (head_of s)) l)

pub heading_count : (s : Section) (n c : ℕ) (l : List ℕ) → Heading s n c l → c ≡ count_of s l
heading_count opening n c l h = sym (ap (λ x. value_from 0 (drop 5 x)) h.2 ∙ value_text c)
heading_count of_rows n c l h = sym (ap (λ x. value_from 0 (drop 5 x)) h.1 ∙ value_text c)
heading_count of_cols n c l h = sym (ap (λ x. value_from 0 (drop 7 x)) h.2 ∙ value_text c)
heading_count of_orders n c l h = absurd h

unfoldable counted_dec : (s : Section) (n c : ℕ) (l : List ℕ) → Dec (Heading s n c l)
unfolding turned Dec.and same_text
counted_dec opening n c l =
    turned (λ w. (w.0, w.1.0, w.1.1)) (λ w. (w.0, (w.1, w.2))) (Dec.and (dec_le 1 c) (Dec.and (dec_le c row_limit) (same_text l (rows_head ++ text c))))
counted_dec of_rows n c l = Dec.and (ℕ_discrete c n) (same_text l (cols_head ++ text c))
counted_dec of_cols n c l =
    turned (λ w. (w.0, w.1.0, w.1.1)) (λ w. (w.0, (w.1, w.2)))
    (Dec.and (dec_le 0 c) (Dec.and (dec_le c (n * n)) (same_text l (orders_head ++ text c))))
counted_dec of_orders n c l = no (λ h. h)

-- ---- order lines: the fields are what stands before the first blank, before the second, and behind both
unfoldable pub field : List ℕ → List ℕ
field [] = []
field (b ∷ s) = cond (eqb b blank) [] (b ∷ field s)

unfoldable pub behind : List ℕ → List ℕ
behind [] = []
behind (b ∷ s) = cond (eqb b blank) s (behind s)

parted : (a x : List ℕ) → Each Digit a → (field (a ++ blank ∷ x) ≡ a) × (behind (a ++ blank ∷ x) ≡ x)
unfolding field behind
parted [] x p = (refl, refl)
parted (b ∷ a) x p =
    let e : eqb b blank ≡ false = ne_eqb b blank (omega (arith, p 0 (omega arith))) in
    let r = parted a x (λ k h. p (suc k) (omega arith)) in
    (rw e (ap (λ y. b ∷ y) r.0), rw e r.1)

abbrev signed_of : List ℕ → ℤ
signed_of s = cond (eqb (get_or s 0 0) minus) (neg_ℤ (pos (value_from 0 (drop 1 s)))) (pos (value_from 0 s))

signed_of_signed : (v : ℤ) → signed_of (signed v) ≡ v
signed_of_signed (pos n) = rw (ne_eqb (get_or (text n) 0 0) minus (omega (arith, text_digits n 0 (text_some n)))) (ap pos (value_text n))
signed_of_signed (negsuc n) = ap (λ x. neg_ℤ (pos x)) (value_text (suc n))

abbrev row_of : List ℕ → ℕ
row_of l = value_from 0 (field l) - 1

abbrev col_of : List ℕ → ℕ
col_of l = value_from 0 (field (behind l)) - 1

abbrev order_of : List ℕ → ℤ
order_of l = signed_of (behind (behind l))

pub fields_of : (l : List ℕ) (i j : ℕ) (v : ℤ) → l ≡ order_text i j v → SameOrder i j v (row_of l) (col_of l) (order_of l)
fields_of l i j v e =
    let p = parted (text (i + 1)) (text (j + 1) ++ blank ∷ signed v) (text_digits (i + 1)) in
    let q = parted (text (j + 1)) (signed v) (text_digits (j + 1)) in
    let h : behind l ≡ text (j + 1) ++ blank ∷ signed v = ap behind e ∙ p.1 in
    let g : behind (behind l) ≡ signed v = ap behind h ∙ q.1 in
    let r : value_from 0 (field l) ≡ i + 1 = ap (λ x. value_from 0 x) (ap field e ∙ p.0) ∙ value_text (i + 1) in
    let c : value_from 0 (field (behind l)) ≡ j + 1 = ap (λ x. value_from 0 x) (ap field h ∙ q.0) ∙ value_text (j + 1) in
    record { row = omega arith; col = omega arith; value = sym (ap signed_of g ∙ signed_of_signed v) }

-- the line l has the order v in row i and column j, in a table of n rows, at a place not before p
abbrev OrderAt : ℕ → ℕ → List ℕ → ℕ → ℕ → ℤ → Type 0
OrderAt n p l i j v = (i < n) × ((j < n) × (Order order_limit v × ((p ≤ i * n + j) × (l ≡ order_text i j v))))

unfoldable order_dec : (v : ℤ) → Dec (Order order_limit v)
unfolding turned
order_dec (pos x) =
    turned (λ h. record { low = omega (arith, signs); high = omega (arith, signs) }) (λ o. omega (arith, signs, o.high)) (dec_le x order_limit)
order_dec (negsuc x) =
    turned (λ h. record { low = omega (arith, signs); high = omega (arith, signs) }) (λ o. omega (arith, signs, o.low)) (dec_le (suc x) order_limit)

unfoldable place_dec : (n p : ℕ) (l : List ℕ) (i j : ℕ) (v : ℤ) → Dec (OrderAt n p l i j v)
unfolding Dec.and order_dec same_text
place_dec n p l i j v =
    Dec.and (dec_lt i n)
    (Dec.and (dec_lt j n) (Dec.and (order_dec v) (Dec.and (dec_le p (i * n + j)) (same_text l (order_text i j v)))))

-- ---- what a line must be in a section with so many lines due
abbrev Fitting : State → List ℕ → Section → ℕ → Type 0
Fitting st l s zero = (c : ℕ) × Heading s (length st.row_labels) c l
Fitting st l opening (suc m) = ⊥
Fitting st l of_rows (suc m) = Form l × New st.row_labels l
Fitting st l of_cols (suc m) = Form l × New st.col_labels l
Fitting st l of_orders (suc m) = (i : ℕ) × (j : ℕ) × (v : ℤ) × OrderAt (length st.row_labels) (length st.entries) l i j v

-- what stands after the lines of st is such a line, and such a line stands
pub after_fitting : {st : State} {l : List ℕ} {st' : State} → After st l st' → Fitting st l st.section st.left
after_fitting {st} {l} (heading c z h f) = subst⁻¹ (λ m. Fitting st l st.section m) z (c, h)
after_fitting {st} {l} (row_label m s z g n f) =
    subst⁻¹ (λ x. Fitting st l x st.left) s (subst⁻¹ (λ x. Fitting st l of_rows x) z (g, n))
after_fitting {st} {l} (col_label m s z g n f) =
    subst⁻¹ (λ x. Fitting st l x st.left) s (subst⁻¹ (λ x. Fitting st l of_cols x) z (g, n))
after_fitting {st} {l} (order_line m i j v s z p q o t u f) =
    subst⁻¹ (λ x. Fitting st l x st.left) s (subst⁻¹ (λ x. Fitting st l of_orders x) z (i, j, v, (p, (q, (o, (t, u))))))

unfoldable fitting_after : (st : State) (l : List ℕ) (s : Section) (m : ℕ) → st.section ≡ s → st.left ≡ m → Fitting st l s m
    → (st' : State) × After st l st'
fitting_after st l s zero e z w = (begun st w.0, heading w.0 z (subst⁻¹ (λ x. Heading x (length st.row_labels) w.0 l) e w.1) refl)
fitting_after st l opening (suc m) e z w = absurd w
fitting_after st l of_rows (suc m) e z w = (with_row st m l, row_label m e z w.0 w.1 refl)
fitting_after st l of_cols (suc m) e z w = (with_col st m l, col_label m e z w.0 w.1 refl)
fitting_after st l of_orders (suc m) e z w =
    let n = length st.row_labels in
    let x = w.3 in (
      with_order st m (w.0 * n + w.1) w.2,
      order_line m w.0 w.1 w.2 e z x.0 x.1.0 x.1.1.0 x.1.1.1.0 x.1.1.1.1 refl,
    )

unfoldable fitting_dec : (st : State) (l : List ℕ) (s : Section) (m : ℕ) → Dec (Fitting st l s m)
unfolding turned counted_dec label_dec place_dec field behind value_from
fitting_dec st l s zero =
    let n = length st.row_labels in
    turned (λ h. (count_of s l, h)) (λ w. subst (λ c. Heading s n c l) (heading_count s n w.0 l w.1) w.1) (counted_dec s n (count_of s l) l)
fitting_dec st l opening (suc m) = no (λ w. w)
fitting_dec st l of_rows (suc m) = label_dec st.row_labels l
fitting_dec st l of_cols (suc m) = label_dec st.col_labels l
fitting_dec st l of_orders (suc m) =
    let n = length st.row_labels in
    let p = length st.entries in
    turned (λ h. (row_of l, col_of l, order_of l, h))
    (λ w.
    let e = fields_of l w.0 w.1 w.2 w.3.1.1.1.1 in
    subst (λ v. OrderAt n p l (row_of l) (col_of l) v) e.value
    (subst (λ j. OrderAt n p l (row_of l) j w.2) e.col (subst (λ i. OrderAt n p l i w.1 w.2) e.row w.3)))
    (place_dec n p l (row_of l) (col_of l) (order_of l))

unfoldable decide : (st : State) (l : List ℕ) → Dec ((st' : State) × After st l st')
unfolding turned fitting_after fitting_dec
decide st l =
    turned (fitting_after st l st.section st.left refl refl) (λ w. after_fitting w.1) (fitting_dec st l st.section st.left)

-- ---- the whole reading, by the length of what is left to read
unfoldable section_dec : (s : Section) → Dec (s ≡ of_orders)
section_dec opening = no (λ e. omega (arith, ap rank e))
section_dec of_rows = no (λ e. omega (arith, ap rank e))
section_dec of_cols = no (λ e. omega (arith, ap rank e))
section_dec of_orders = yes refl

unfoldable end_outcome : (st : State) (k : ℕ) (s : List ℕ) → Unbroken s → Dec ((st.section ≡ of_orders) × (st.left ≡ 0)) → (o : Outcome) × Reads st k s o
end_outcome st k [] u (yes f) = (good (table_of st), done refl (record { last = f.0; none_left = f.1 }) refl)
end_outcome st k [] u (no f) = (wrong k, short u (λ e g. f (g.last, g.none_left)) refl)
end_outcome st k (b ∷ s) u f = (wrong k, short {st = st} {s = b ∷ s} u (λ e g. omega (arith, ap length e)) refl)

unfoldable reads_by : (fuel : ℕ) (st : State) (k : ℕ) (s : List ℕ) → length s < fuel → (o : Outcome) × Reads st k s o
unfolding cut decide section_dec end_outcome Dec.and
reads_by zero st k s h = absurd (omega arith)
reads_by (suc fuel) st k s h = go (cut s) (λ st' x g. reads_by fuel st' (suc k) x g)
  where
    on : (l x : List ℕ) → Ended s l x → Dec ((st' : State) × After st l st')
        → ((st' : State) (y : List ℕ) → length y < fuel → (o : Outcome) × Reads st' (suc k) y o) → (o : Outcome) × Reads st k s o
    on l x e (yes w) rec =
        let m = rec w.0 x (omega (arith, ap length e.parts, length-append l (feed ∷ x))) in
        (m.0, next l x w.0 e w.1 m.1)
    on l x e (no n) rec = (wrong k, unfit l x e (λ st' a. n (st', a)) refl)

    go : Cut s → ((st' : State) (y : List ℕ) → length y < fuel → (o : Outcome) × Reads st' (suc k) y o) → (o : Outcome) × Reads st k s o
    go (unbroken u) rec = end_outcome st k s u (Dec.and (section_dec st.section) (ℕ_discrete st.left 0))
    go (broken l x e) rec = on l x e (decide st l) rec

-- every byte string has an outcome
unfoldable pub outcome : (s : List ℕ) → (o : Outcome) × Reads start 1 s o
unfolding reads_by
outcome s = reads_by (suc (length s)) start 1 s (omega arith)

-- so it is the sheet of a table within the limits, or has a first wrong line
pub sheet_or_wrong : (s : List ℕ) → ((t : Labelled) × IsSheet t s) ⊎ ((k : ℕ) × FirstWrong s k)
sheet_or_wrong s = go (outcome s).0 (outcome s).1
  where
    go : (o : Outcome) → Reads start 1 s o → ((t : Labelled) × IsSheet t s) ⊎ ((k : ℕ) × FirstWrong s k)
    go (good t) r = inl (t, read_is_written s t r)
    go (wrong k) r = inr (k, wrong_is_first s k r)
