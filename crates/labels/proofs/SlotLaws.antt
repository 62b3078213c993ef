-- Labels in the places of a buffer. Assumes nothing.
use mathlib.Core.Path.{◌≡◌, refl, sym, ap, subst⁻¹, ◌∙◌}
use mathlib.Core.Bool.{Bool, true, false, cond, not}
use mathlib.Core.List.{List, [], ◌∷◌, ◌++◌, append-nil}
use Prim.Native.Nat.{ℕ, zero, suc, ◌+◌, ◌-◌, ◌*◌, ◌<◌, ◌≤◌}
use native.Mathlib.Omega.{arith}
use native.Mathlib.Numerals.{add-one}
use borrow.Author.Tests.{ne_eqb}
use lib.Dec.{eqb}
use lib.ListN.{length, get_or, take, drop, replicate, length-drop, length-append, length-take, take-append-drop, length-replicate, get_or-replicate}
use lib.Seq.{drop-drop, ext_get_or, get_or-drop, get_or-append-add, length-take-le}
use Rattle.std.specs.List.{prefix_len}
use Rattle.std.proofs.lemmas.List.Sums.{take_while-cons}
use Rattle.std.proofs.lemmas.List.Folds.{length-prefix_len}
use Rattle.sheet.specs.Text.{Each, ended}
use Rattle.orders.specs.Tested.{Tells}
use native.Mathlib.Decide.{ℕ_discrete}
use Rattle.sheet.specs.Labels.{width, Form, Labels, filled, slots, slot, Repeated}
use Rattle.sheet.specs.Sheet.{ended_lines}
use Rattle.sheet.proofs.Slots.{slot_at, filled_once, labels_short, form_nonzero, slots_length, filled_length}
use Rattle.orders.proofs.Entries.{clash}
use Rattle.labels.specs.Parts.{label_of, labels_of, SlotStands, BufferStands, LabelsTold}
use Rattle.labels.specs.Wrong.{WrongIn, malformed, repeated}

-- the label of a place that begins with the byte b
label_cons : (b : ℕ) (s : List ℕ) → label_of (b ∷ s) ≡ cond (eqb b 0) [] (b ∷ label_of s)
unfolding label_of
label_cons b s = take_while-cons (λ x. not (eqb x 0)) b s ∙ by (eqb b 0)
  where
    by : (t : Bool) → cond (not t) (b ∷ label_of s) [] ≡ cond t [] (b ∷ label_of s)
    by true = refl
    by false = refl

-- a label is the front of its place
pub label_le : (s : List ℕ) → length (label_of s) ≤ length s
unfolding label_of
label_le s = let n = prefix_len (λ x. not (eqb x 0)) s in omega (arith, length-take n s)

pub label_take : (s : List ℕ) → take (length (label_of s)) s ≡ label_of s
unfolding label_of
label_take s = ap (λ n. take n s) (length-prefix_len (λ x. not (eqb x 0)) s)

-- the label of a filled place
pub label_filled : (l : List ℕ) (m : ℕ) → Each (λ b. 1 ≤ b) l → label_of (l ++ replicate m 0) ≡ l
unfolding label_of
label_filled [] zero p = refl
label_filled [] (suc m) p = refl
label_filled (b ∷ l) m p =
    label_cons b (l ++ replicate m 0)
    ∙ rw (ne_eqb b 0 (λ e. omega (arith, p 0 (omega arith)))) (ap (λ x. b ∷ x) (label_filled l m (λ k h. p (suc k) (omega arith))))

-- a place that stands is its label, filled up
pub slot_good : (s : List ℕ) → length s ≡ width → SlotStands s → s ≡ filled (label_of s)
slot_good s h p =
    let n = length (label_of s) in
    let e : length (drop n s) ≡ width - n = length-drop n s ∙ omega arith in
    let z : drop n s ≡ replicate (width - n) 0 =
    ext_get_or 0 (drop n s) (replicate (width - n) 0) (e ∙ sym (length-replicate {A = ℕ} (width - n) 0))
    (λ k g.
    get_or-drop n s k 0
    ∙ p.zeros (n + k) (omega arith) (omega (arith, label_le s)) ∙ sym (get_or-replicate (width - n) k 0 0 (omega arith))) in
    sym (take-append-drop n s) ∙ ap (λ x. x ++ drop n s) (label_take s) ∙ ap (λ x. label_of s ++ x) z

-- and a filled label stands in its place
pub filled_stands : (l : List ℕ) → Form l → SlotStands (filled l)
filled_stands l f =
    let e : label_of (filled l) ≡ l = label_filled l (width - length l) (form_nonzero l f) in
    record {
      form = subst⁻¹ (λ x. Form x) e f;
      zeros = λ k h g.
          let d : k ≡ length l + (k - length l) = omega (arith, ap length e) in
          ap (λ i. get_or (filled l) i 0) d
          ∙ get_or-append-add l (replicate (width - length l) 0) (k - length l) 0
          ∙ get_or-replicate (width - length l) (k - length l) 0 0 (omega (arith, filled_length l f.few));
    }

-- the places of the tail
slot_tail : (b : List ℕ) (k : ℕ) → slot (drop width b) k ≡ slot b (suc k)
slot_tail b k =
    let e : width + width * k ≡ width * suc k = omega arith in
    ap (λ x. take width x) (drop-drop (width * k) width b ∙ ap (λ i. drop i b) e)

pub slot_length : (b : List ℕ) (k : ℕ) → width * k + width ≤ length b → length (slot b k) ≡ width
slot_length b k h = length-take-le width (drop (width * k) b) (omega (arith, length-drop (width * k) b))

-- the labels of a buffer, one after the other
pub labels_count : (n : ℕ) (b : List ℕ) → length (labels_of n b) ≡ n
unfolding labels_of
labels_count zero b = refl
labels_count (suc n) b = ap suc (labels_count n (drop width b))

pub labels_at : (n : ℕ) (b : List ℕ) (k : ℕ) → k < n → get_or (labels_of n b) k [] ≡ label_of (slot b k)
unfolding labels_of
labels_at zero b k h = absurd (omega arith)
labels_at (suc n) b zero h = refl
labels_at (suc n) b (suc k) h = labels_at n (drop width b) k (omega arith) ∙ ap label_of (slot_tail b k)

pub labels_next : (k : ℕ) (b : List ℕ) → labels_of (suc k) b ≡ labels_of k b ++ (label_of (slot b k) ∷ [])
unfolding labels_of
labels_next zero b = refl
labels_next (suc k) b =
    ap (λ x. label_of (take width b) ∷ x)
    (labels_next k (drop width b) ∙ ap (λ x. labels_of k (drop width b) ++ (label_of x ∷ [])) (slot_tail b k))

-- fewer labels have shorter lines
pub lines_mono : (k n : ℕ) (b : List ℕ) → k ≤ n → length (ended_lines (labels_of k b)) ≤ length (ended_lines (labels_of n b))
unfolding labels_of ended_lines
lines_mono zero n b h = omega arith
lines_mono (suc k) zero b h = absurd (omega arith)
lines_mono (suc k) (suc n) b h =
    omega (
      arith,
      lines_mono k n (drop width b) (omega arith),
      length-append (ended (label_of (take width b))) (ended_lines (labels_of k (drop width b))),
      length-append (ended (label_of (take width b))) (ended_lines (labels_of n (drop width b))),
    )

-- the line of label k after those before it
pub label_line_next : (k : ℕ) (b : List ℕ) → ended_lines (labels_of (k + 1) b) ≡ ended_lines (labels_of k b) ++ ended (label_of (slot b k))
label_line_next k b =
    ap (λ i. ended_lines (labels_of i b)) (add-one k)
    ∙ ap ended_lines (labels_next k b)
    ∙ Rattle.sheet.proofs.Orders.ended_append (labels_of k b) (label_of (slot b k) ∷ [])
    ∙ ap (λ x. ended_lines (labels_of k b) ++ x) (Rattle.sheet.proofs.Orders.ended_one (label_of (slot b k)))

-- it has room where all lines do
pub line_room : (k n : ℕ) (b : List ℕ) → k < n
    → length (ended_lines (labels_of k b)) + length (ended (label_of (slot b k))) ≤ length (ended_lines (labels_of n b))
line_room k n b h =
    omega (
      arith,
      ap length (label_line_next k b),
      length-append (ended_lines (labels_of k b)) (ended (label_of (slot b k))),
      lines_mono (k + 1) n b (omega arith),
    )

-- a buffer that stands is the places of its labels
stands_tail : (n : ℕ) (b : List ℕ) → BufferStands (suc n) b → BufferStands n (drop width b)
stands_tail n b p =
    record {
      forms = λ k h. subst⁻¹ (λ x. SlotStands x) (slot_tail b k) (p.forms (suc k) (omega arith));
      apart = λ i k g h e. p.apart (suc i) (suc k) (omega arith) (omega arith) (sym (slot_tail b i) ∙ e ∙ slot_tail b k);
    }

pub buffer_slots : (n : ℕ) (b : List ℕ) → length b ≡ width * n → BufferStands n b → slots (labels_of n b) ≡ b
unfolding labels_of slots
buffer_slots zero [] h p = refl
buffer_slots zero (x ∷ b) h p = absurd (omega arith)
buffer_slots (suc n) b h p =
    ap (λ x. x ++ slots (labels_of n (drop width b)))
    (sym (slot_good (take width b) (slot_length b 0 (omega arith)) (p.forms 0 (omega arith))))
    ∙ ap (λ x. take width b ++ x) (buffer_slots n (drop width b) (omega (arith, length-drop width b)) (stands_tail n b p))
    ∙ take-append-drop width b

pub buffer_labels : (n : ℕ) (b : List ℕ) → length b ≡ width * n → BufferStands n b → Labels (labels_of n b)
buffer_labels n b h p =
    record {
      form = λ k g.
          subst⁻¹ (λ x. Form x) (labels_at n b k (omega (arith, labels_count n b))) (p.forms k (omega (arith, labels_count n b))).form;
      apart = λ i k g j e.
          let c : k < n = omega (arith, labels_count n b) in
          let f : label_of (slot b i) ≡ label_of (slot b k) = sym (labels_at n b i (omega arith)) ∙ e ∙ labels_at n b k c in
          p.apart i k g c
          (slot_good (slot b i) (slot_length b i (omega arith)) (p.forms i (omega arith))
          ∙ ap filled f ∙ sym (slot_good (slot b k) (slot_length b k (omega arith)) (p.forms k c)));
    }

-- and a buffer that holds labels stands
pub labels_buffer : (ls : List (List ℕ)) (n : ℕ) (b : List ℕ) → slots ls ≡ b → length b ≡ width * n → Labels ls → BufferStands n b
labels_buffer ls n b e h p =
    let c : length ls ≡ n = omega (arith, slots_length ls (labels_short ls p), ap length e) in
    let at : (k : ℕ) → k < n → slot b k ≡ filled (get_or ls k []) = λ k g.
    ap (λ x. slot x k) (sym e ∙ sym (append-nil (slots ls))) ∙ slot_at ls [] k (labels_short ls p) (omega arith) in
    record {
      forms = λ k g. subst⁻¹ (λ x. SlotStands x) (at k g) (filled_stands (get_or ls k []) (p.form k (omega arith)));
      apart = λ i k g j f.
          p.apart i k g (omega arith)
          (filled_once (get_or ls i []) (get_or ls k []) (p.form i (omega arith)) (p.form k (omega arith)) (sym (at i (omega arith)) ∙ f ∙ at k j));
    }

-- the test of one place: its label, and the bytes behind it
pub slot_tells : (s : List ℕ) (k : ℕ) (r : Bool) → k ≡ length (label_of s) → Form (label_of s)
    → Tells r ((i : ℕ) → i < length (drop k s) → get_or (drop k s) i 0 ≡ 0) → Tells r (SlotStands s)
slot_tells s k r e f t =
    record {
      holds = λ b.
          record {
            form = f;
            zeros = λ i h g.
                let d : i ≡ k + (i - k) = omega arith in
                ap (λ x. get_or s x 0) d ∙ sym (get_or-drop k s (i - k) 0) ∙ t.holds b (i - k) (omega (arith, length-drop k s));
          };
      fails = λ b p.
          t.fails b (λ i h. get_or-drop k s i 0 ∙ p.zeros (k + i) (omega arith) (omega (arith, length-drop k s)));
    }

-- one label more stands in a buffer
pub buffer_more : (k : ℕ) (b : List ℕ) → width * k + width ≤ length b → BufferStands k b → SlotStands (slot b k) → (Repeated b k → ⊥)
    → BufferStands (k + 1) b
buffer_more k b h p s n =
    record {
      forms = λ i g.
          elim (ℕ_discrete i k) [
            | yes e ↦ subst⁻¹ (λ x. SlotStands (slot b x)) e s
            | no ne ↦ p.forms i (omega arith)
          ];
      apart = λ i j g l e.
          elim (ℕ_discrete j k) [
            | yes q ↦ n (record { inside = h; earlier = i; before = omega arith; alike = e ∙ ap (λ x. slot b x) q })
            | no ne ↦ p.apart i j g (omega arith) e
          ];
    }

-- what is told of a buffer that stands, and of one with a wrong label; and that none is both
pub labels_stand : {n : ℕ} {b : List ℕ} → BufferStands n b → LabelsTold n b true
labels_stand p = record { stand = λ e. p; wrong = λ e. clash refl e }

pub labels_wrong : {n : ℕ} {b : List ℕ} → WrongIn n b → LabelsTold n b false
labels_wrong w = record { stand = λ e. clash e refl; wrong = λ e. w }

pub buffer_right : (n : ℕ) (b : List ℕ) → length b ≡ width * n → BufferStands n b → WrongIn n b → ⊥
buffer_right n b h p (malformed k g none) =
    let s = p.forms k g in none (label_of (slot b k)) s.form (slot_good (slot b k) (slot_length b k (omega arith)) s)
buffer_right n b h p (repeated k g r) = p.apart r.earlier k r.before g r.alike

-- a label's line
pub line_length : (l : List ℕ) → length (ended l) ≡ length l + 1
line_length l = length-append l (10 ∷ [])
