-- What is kept of the lines so far, and one line more. Assumes nothing.
use mathlib.Core.Path.{◌≡◌, refl, sym, ap, subst, ◌∙◌}
use mathlib.Core.Bool.{Bool, true, false, not}
use mathlib.Core.List.{List, [], ◌∷◌, ◌++◌, append_assoc, append-nil}
use Prim.Native.Nat.{ℕ, suc, ◌+◌, ◌-◌, ◌*◌, ◌<◌, ◌≤◌}
use native.Mathlib.Omega.{arith}
use native.Mathlib.Nat.{mul-le-mul}
use lib.IntN.{ℤ}
use lib.ListN.{length, get_or, take, drop, set, replicate, length-append, length-replicate, replicate-append-replicate}
use Rattle.std.proofs.lemmas.List.{take-replicate, drop-replicate}
use Rattle.std.proofs.lemmas.List.Edits.{paste_all}
use lib.Seq.{take_at, take-length, take-append-add, drop-append-add, set_split, paste, append_snoc}
use Rattle.orders.specs.Tested.{Tells}
use Rattle.theory.specs.Limits.{row_limit}
use Rattle.theory.specs.Table.{absent}
use Rattle.sheet.specs.Labels.{width, Form, New, Labels, filled, slots, slot, Repeated}
use Rattle.sheet.specs.Reading.{Ended, State, After, heading, row_label, col_label, order_line, with_row, with_col, with_order}
use Rattle.sheet.proofs.Slots.{Short, labels_short, slots_length, slots_append, slot_at, filled_once, labels_more, length_more}
use Rattle.sheet.proofs.Lines.{rank}
use Rattle.orders.proofs.Places.{cell}
use Rattle.fields.specs.Fields.{LineIs}
use Rattle.fields.proofs.LineLaws.{line_of, line_only}
use Rattle.lines.specs.declared.size.Size.{Size}
use Rattle.lines.specs.declared.Placed.{Placed}
use Rattle.lines.specs.declared.Section.TheVariants.{Rows, Cols, Orders}
use Rattle.lines.specs.declared.Kept.{Kept}
use Rattle.lines.specs.Parts.{OrderIs, Holding, LabelKept, Holds, InSection, LineKept, LineTaken}

-- a label of at most 8 bytes put into the next place
module _ (b : List ℕ) (ls : List (List ℕ)) (l : List ℕ) (h : Holding b ls) (s : Short ls) (few : length l ≤ width) (room : length ls < row_limit) where
  front_held : take (width * length ls) b ≡ slots ls
  front_held =
      ap (λ x. take (width * length ls) x) h
      ∙ take_at (slots ls) (replicate (width * row_limit - width * length ls) 0) (width * length ls) (slots_length ls s)

  rest_zero : drop (width * length ls + length l) b
      ≡ replicate (width - length l) 0 ++ replicate (width * row_limit - width * length (ls ++ (l ∷ []))) 0
  rest_zero =
      let n = width * row_limit - width * length ls in
      let r = width * row_limit - width * length (ls ++ (l ∷ [])) in
      let m : n - length l ≡ (width - length l) + r = omega (arith, length_more ls l) in
      ap (λ x. drop (width * length ls + length l) x) h
      ∙ ap (λ i. drop (i + length l) (slots ls ++ replicate n 0)) (sym (slots_length ls s))
      ∙ drop-append-add (slots ls) (replicate n 0) (length l)
      ∙ drop-replicate (length l) n 0 ∙ ap (λ i. replicate i 0) m ∙ sym (replicate-append-replicate (width - length l) r 0)

  pub holding_more : Holding (paste b (width * length ls) l (length l)) (ls ++ (l ∷ []))
  unfolding slots
  holding_more =
      paste_all b (width * length ls) l (length l) refl
      ∙ ap (λ x. x ++ (l ++ drop (width * length ls + length l) b)) front_held
      ∙ ap (λ x. slots ls ++ (l ++ x)) rest_zero ∙ simp (slots_append, append_assoc, append-nil)

pub holding_length : (b : List ℕ) (ls : List (List ℕ)) → Holding b ls → Short ls → length ls ≤ row_limit → length b ≡ width * row_limit
holding_length b ls h s few =
    ap length h
    ∙ length-append (slots ls) (replicate (width * row_limit - width * length ls) 0)
    ∙ omega (arith, slots_length ls s, length-replicate {A = ℕ} (width * row_limit - width * length ls) 0)

-- the last label stands in an earlier place too exactly when it is not new
module _ (b : List ℕ) (ls : List (List ℕ)) (l : List ℕ) (h : Holding b (ls ++ (l ∷ []))) (p : Labels ls) (f : Form l) (few : length ls < row_limit) where
  module _ where
    last_short : Short (ls ++ (l ∷ []))
    last_short k g =
        elim (native.Mathlib.Decide.ℕ_discrete k (length ls)) [
          | yes e ↦ rw (ap (λ i. get_or (ls ++ (l ∷ [])) i []) e ∙ lib.Seq.get_or-append_seam ls l [] []) f.few
          | no ne ↦ rw (lib.ListN.get_or-append ls (l ∷ []) [] k (omega (arith, length_more ls l)))
              (p.form k (omega (arith, length_more ls l))).few
        ]

    slot_last : slot b (length ls) ≡ filled l
    slot_last =
        ap (λ x. slot x (length ls)) h
        ∙ slot_at (ls ++ (l ∷ [])) _ (length ls) last_short (omega (arith, length_more ls l))
        ∙ ap filled (lib.Seq.get_or-append_seam ls l [] [])

    slot_old : (i : ℕ) → i < length ls → slot b i ≡ filled (get_or ls i [])
    slot_old i g =
        ap (λ x. slot x i) h
        ∙ slot_at (ls ++ (l ∷ [])) _ i last_short (omega (arith, length_more ls l)) ∙ ap filled (lib.ListN.get_or-append ls (l ∷ []) [] i g)

  pub repeated_old : Repeated b (length ls) → New ls l → ⊥
  repeated_old r n =
      n r.earlier r.before
      (filled_once (get_or ls r.earlier []) l (p.form r.earlier r.before) f (sym (slot_old r.earlier r.before) ∙ r.alike ∙ slot_last))

  pub unrepeated_new : (Repeated b (length ls) → ⊥) → New ls l
  unrepeated_new n k g e =
      n
      (record {
        inside = omega (arith, holding_length b (ls ++ (l ∷ [])) h last_short (omega (arith, length_more ls l)));
        earlier = k;
        before = g;
        alike = slot_old k g ∙ ap filled e ∙ sym slot_last;
      })

-- a label put into the next place is kept unless it stands in an earlier place too
module _ (b : List ℕ) (ls : List (List ℕ)) (l : List ℕ) (h : Holding b ls) (p : Labels ls) (f : Form l) (few : length ls < row_limit) where
  abbrev put : List ℕ
  put = paste b (width * length ls) l (length l)

  put_holds : Holding put (ls ++ (l ∷ []))
  put_holds = holding_more b ls l h (labels_short ls p) f.few few

  compared : (again : Bool) → Tells again (Repeated put (length ls)) → LabelKept ls l (not again) put
  compared true t = λ g n. repeated_old put ls l put_holds p f few (t.holds refl) n
  compared false t = (f, unrepeated_new put ls l put_holds p f few (t.fails refl), put_holds)

  pub compared_label : (k : ℕ) (again : Bool) → length ls ≡ k → Tells again (Repeated (paste b (width * k) l (length l)) k)
      → LabelKept ls l (not again) (paste b (width * k) l (length l))
  compared_label k again e =
      subst (λ x. Tells again (Repeated (paste b (width * x) l (length l)) x) → LabelKept ls l (not again) (paste b (width * x) l (length l))) e
      (compared again)

-- an order put into the table
pub table_more : (e : List ℤ) (p : ℕ) (v : ℤ) (n : ℕ) → length e ≤ p → p < n
    → set (e ++ replicate (n - length e) absent) p v
    ≡ (e ++ (replicate (p - length e) absent ++ (v ∷ []))) ++ replicate (n - length (e ++ (replicate (p - length e) absent ++ (v ∷ [])))) absent
table_more e p v n h g =
    let d = p - length e in
    let r = replicate (n - length e) absent in
    let q : p ≡ length e + d = omega arith in
    let q' : suc p ≡ length e + suc d = omega arith in
    let m : length (e ++ (replicate d absent ++ (v ∷ []))) ≡ suc p =
    length-append e (replicate d absent ++ (v ∷ []))
    ∙ omega (arith, length-append (replicate d absent) (v ∷ []), length-replicate {A = ℤ} d absent) in
    let w : n - length e - suc d ≡ n - length (e ++ (replicate d absent ++ (v ∷ []))) = omega arith in
    let t : take p (e ++ r) ≡ e ++ replicate d absent =
    ap (λ i. take i (e ++ r)) q
    ∙ take-append-add e r d ∙ ap (λ x. e ++ x) (take-replicate d (n - length e) absent (omega arith)) in
    let u : drop (suc p) (e ++ r) ≡ replicate (n - length (e ++ (replicate d absent ++ (v ∷ [])))) absent =
    ap (λ i. drop i (e ++ r)) q'
    ∙ drop-append-add e r (suc d) ∙ drop-replicate (suc d) (n - length e) absent ∙ ap (λ i. replicate i absent) w in
    set_split (e ++ r) p v (omega (arith, length-append e r, length-replicate {A = ℤ} (n - length e) absent))
    ∙ ap (λ x. x ++ v ∷ drop (suc p) (e ++ r)) t
    ∙ ap (λ x. (e ++ replicate d absent) ++ v ∷ x) u
    ∙ sym (append_snoc (e ++ replicate d absent) v (replicate (n - length (e ++ (replicate d absent ++ (v ∷ [])))) absent))
    ∙ ap (λ x. x ++ replicate (n - length (e ++ (replicate d absent ++ (v ∷ [])))) absent) (append_assoc e (replicate d absent) (v ∷ []))

pub more_length : (e : List ℤ) (p : ℕ) (v : ℤ) → length e ≤ p → length (e ++ (replicate (p - length e) absent ++ (v ∷ []))) ≡ p + 1
more_length e p v h =
    length-append e (replicate (p - length e) absent ++ (v ∷ []))
    ∙ omega (arith, length-append (replicate (p - length e) absent) (v ∷ []), length-replicate {A = ℤ} (p - length e) absent)

-- the place of an order is inside the table
pub place_small : (n i j : ℕ) → n ≤ row_limit → i < n → j < n → i * n + j < row_limit * row_limit
place_small n i j h p q = omega (arith, cell n i j p q, mul-le-mul {n₁ = n} {m₁ = n} {n₂ = row_limit} {m₂ = row_limit} h h)

-- an order line: only one can stand in the section of orders, and it is kept at a place that no line so far has reached
module _ (kept : Kept) (size : Size) (k m : ℕ) (l : List ℕ) (st : State) (h : Holds kept st) (d : InSection (Orders size) k (suc m) st) where
  pub orders_only : (st' : State) → After st l st' → (o : Placed) × OrderIs size.n l o × (length st.entries ≤ o.row * size.n + o.col)
  orders_only st' (heading c z g e) = absurd (omega (arith, d.left_is))
  orders_only st' (row_label m' s z f g e) = absurd (omega (arith, ap rank s, ap rank d.section_is))
  orders_only st' (col_label m' s z f g e) = absurd (omega (arith, ap rank s, ap rank d.section_is))
  orders_only st' (order_line m' i j v s z p q o r u e) =
      let w : length st.row_labels ≡ size.n = d.rows_are in (
        record { row = i; col = j; order = v },
        record { row = omega arith; col = omega arith; order_stands = o; is = u },
        rw w at r,
      )

  pub kept_order : (o : Placed) → OrderIs size.n l o → length st.entries ≤ o.row * size.n + o.col
      → let p = o.row * size.n + o.col in
      LineKept (Orders size) (k + 1) m st l true (record { table = set kept.table p o.order; rows = kept.rows; cols = kept.cols; next = p + 1 })
  kept_order o f r =
      let w : length st.row_labels ≡ size.n = d.rows_are in
      let p = o.row * size.n + o.col in
      let q : p < row_limit * row_limit = place_small size.n o.row o.col size.few f.row f.col in (
        with_order st m p o.order,
        order_line m o.row o.col o.order d.section_is d.left_is (omega (arith, f.row)) (omega (arith, f.col)) f.order_stands (rw w r) f.is
            (ap (λ x. with_order st m (o.row * x + o.col) o.order) (sym w)),
        record { section_is = refl; left_is = refl; rows_are = d.rows_are; cols_are = d.cols_are },
        record {
          rows_held = h.rows_held;
          cols_held = h.cols_held;
          rows_stand = h.rows_stand;
          cols_stand = h.cols_stand;
          table_held = ap (λ x. set x p o.order) h.table_held ∙ table_more st.entries p o.order (row_limit * row_limit) r q;
          next_held = sym (more_length st.entries p o.order r);
          few = omega (arith, more_length st.entries p o.order r);
        },
      )

-- a label of a row: only one can stand in the section of rows
module _ (kept : Kept) (k m : ℕ) (l : List ℕ) (st : State) (h : Holds kept st) where
  pub row_kept : InSection Rows k (suc m) st → (fits : Bool) (b : List ℕ) → LabelKept st.row_labels l fits b
      → LineKept Rows (k + 1) m st l fits (record { table = kept.table; rows = b; cols = kept.cols; next = kept.next })
  row_kept d true b f = (
    with_row st m l,
    row_label m d.section_is d.left_is f.0 f.1 refl,
    record {
      section_is = refl;
      left_is = refl;
      rows_are = length_more st.row_labels l ∙ ap (λ x. x + 1) d.rows_are;
      cols_are = d.cols_are;
    },
    record {
      rows_held = f.2;
      cols_held = h.cols_held;
      rows_stand = labels_more st.row_labels l h.rows_stand f.0 f.1;
      cols_stand = h.cols_stand;
      table_held = h.table_held;
      next_held = h.next_held;
      few = h.few;
    },
  )
  row_kept d false b n = go
    where
      go : (st' : State) → After st l st' → ⊥
      go st' (heading c z g f) = omega (arith, d.left_is)
      go st' (row_label m' z y f g x) = n f g
      go st' (col_label m' z y f g x) = omega (arith, ap rank z, ap rank d.section_is)
      go st' (order_line m' i j v z y p q o r u x) = omega (arith, ap rank z, ap rank d.section_is)

  -- the same of a column
  pub col_kept : {size : Size} → InSection (Cols size) k (suc m) st → (fits : Bool) (b : List ℕ) → LabelKept st.col_labels l fits b
      → LineKept (Cols size) (k + 1) m st l fits (record { table = kept.table; rows = kept.rows; cols = b; next = kept.next })
  col_kept d true b f = (
    with_col st m l,
    col_label m d.section_is d.left_is f.0 f.1 refl,
    record {
      section_is = refl;
      left_is = refl;
      rows_are = d.rows_are;
      cols_are = length_more st.col_labels l ∙ ap (λ x. x + 1) d.cols_are;
    },
    record {
      rows_held = h.rows_held;
      cols_held = f.2;
      rows_stand = h.rows_stand;
      cols_stand = labels_more st.col_labels l h.cols_stand f.0 f.1;
      table_held = h.table_held;
      next_held = h.next_held;
      few = h.few;
    },
  )
  col_kept d false b n = go
    where
      go : (st' : State) → After st l st' → ⊥
      go st' (heading c z g f) = omega (arith, d.left_is)
      go st' (row_label m' z y f g x) = omega (arith, ap rank z, ap rank d.section_is)
      go st' (col_label m' z y f g x) = n f g
      go st' (order_line m' i j v z y p q o r u x) = omega (arith, ap rank z, ap rank d.section_is)

-- ---- the line at the front of a text: the text has none, or it is not kept, or it is
module _ {st : State} {s : List ℕ} where
  pub front_missing : ((e : ℕ) → LineIs s e → ⊥) → (l x : List ℕ) (st' : State) → Ended s l x → After st l st' → ⊥
  front_missing none l x st' g a = none (length l) (line_of g)

  module _ {e : ℕ} (first : LineIs s e) where
    pub front_unfit : ((st' : State) → After st (take e s) st' → ⊥) → (l x : List ℕ) (st' : State) → Ended s l x → After st l st' → ⊥
    front_unfit none l x st' g a = none st' (subst (λ y. After st y st') (line_only first l x g) a)

    pub front_fit : {st' : State} → After st (take e s) st' → LineTaken st s (e + 1) st'
    front_fit a = record { line = take e s; stands = a; ended = first.ended; inside = omega (arith, first.inside) }
