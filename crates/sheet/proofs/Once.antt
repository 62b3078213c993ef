-- A sheet has one reading only. Assumes nothing.
use mathlib.Core.Path.{◌≡◌, sym, ap, subst, subst⁻¹, ◌∙◌}
use mathlib.Core.List.{List}
use Prim.Native.Nat.{ℕ, suc, ◌+◌, ◌*◌}
use native.Mathlib.Omega.{arith}
use lib.ListN.{length}
use Rattle.sheet.specs.Sheet.{Labelled}
use Rattle.sheet.specs.Reading.{Ended, State, After, heading, row_label, col_label, order_line, begun, with_row, with_col, with_order}
use Rattle.sheet.specs.Reading.{Outcome, good, wrong, Reads, done, short, unfit, next}
use Rattle.sheet.proofs.Lines.{ended_once, unbroken_unended, none_unended, rank, heading_once, order_once}

-- what a line says after those before it
pub after_once : (st : State) (l : List ℕ) (a b : State) → After st l a → After st l b → a ≡ b
after_once st l a b (heading c z h e) (heading d y g f) =
    e ∙ ap (λ x. begun st x) (heading_once st.section (length st.row_labels) c d l h g) ∙ sym f
after_once st l a b (heading c z h e) (row_label m s y g n f) = absurd (omega arith)
after_once st l a b (heading c z h e) (col_label m s y g n f) = absurd (omega arith)
after_once st l a b (heading c z h e) (order_line m i j v s y p q r t u f) = absurd (omega arith)
after_once st l a b (row_label m s y g n f) (heading c z h e) = absurd (omega arith)
after_once st l a b (row_label m s y g n f) (row_label m' s' y' g' n' f') =
    let e : m ≡ m' = omega arith in f ∙ ap (λ x. with_row st x l) e ∙ sym f'
after_once st l a b (row_label m s y g n f) (col_label m' s' y' g' n' f') = absurd (omega (arith, ap rank s, ap rank s'))
after_once st l a b (row_label m s y g n f) (order_line m' i j v s' y' p q r t u f') = absurd (omega (arith, ap rank s, ap rank s'))
after_once st l a b (col_label m s y g n f) (heading c z h e) = absurd (omega arith)
after_once st l a b (col_label m s y g n f) (row_label m' s' y' g' n' f') = absurd (omega (arith, ap rank s, ap rank s'))
after_once st l a b (col_label m s y g n f) (col_label m' s' y' g' n' f') =
    let e : m ≡ m' = omega arith in f ∙ ap (λ x. with_col st x l) e ∙ sym f'
after_once st l a b (col_label m s y g n f) (order_line m' i j v s' y' p q r t u f') = absurd (omega (arith, ap rank s, ap rank s'))
after_once st l a b (order_line m i j v s y p q r t u f) (heading c z h e) = absurd (omega arith)
after_once st l a b (order_line m i j v s y p q r t u f) (row_label m' s' y' g' n' f') = absurd (omega (arith, ap rank s, ap rank s'))
after_once st l a b (order_line m i j v s y p q r t u f) (col_label m' s' y' g' n' f') = absurd (omega (arith, ap rank s, ap rank s'))
after_once st l a b (order_line m i j v s y p q r t u f) (order_line m' i' j' v' s' y' p' q' r' t' u' f') =
    let o = order_once i j v i' j' v' (sym u ∙ u') in
    let e : m ≡ m' = omega arith in
    f
    ∙ ap (λ x. with_order st x (i * length st.row_labels + j) v) e
    ∙ ap (λ x. with_order st m' (x * length st.row_labels + j) v) o.row
    ∙ ap (λ x. with_order st m' (i' * length st.row_labels + x) v) o.col
    ∙ ap (λ x. with_order st m' (i' * length st.row_labels + j') x) o.value
    ∙ sym f'

-- The whole reading: no second outcome.
pub reads_once : {st : State} {k : ℕ} {s : List ℕ} {a b : Outcome} → Reads st k s a → Reads st k s b → a ≡ b
reads_once (done z f e) (done z' f' e') = e ∙ sym e'
reads_once (done z f e) (short u n e') = absurd (n z f)
reads_once (done z f e) (unfit l r d n e') = absurd (none_unended l r (subst (λ x. Ended x l r) z d))
reads_once (done z f e) (next l r t d n m) = absurd (none_unended l r (subst (λ x. Ended x l r) z d))
reads_once (short u n e) (done z f e') = absurd (n z f)
reads_once (short u n e) (short u' n' e') = e ∙ sym e'
reads_once {s = s} (short u n e) (unfit l r d n' e') = absurd (unbroken_unended s l r u d)
reads_once {s = s} (short u n e) (next l r t d n' m) = absurd (unbroken_unended s l r u d)
reads_once (unfit l r d n e) (done z f e') = absurd (none_unended l r (subst (λ x. Ended x l r) z d))
reads_once {s = s} (unfit l r d n e) (short u n' e') = absurd (unbroken_unended s l r u d)
reads_once (unfit l r d n e) (unfit l' r' d' n' e') = e ∙ sym e'
reads_once {st = st} {s = s} (unfit l r d n e) (next l' r' t d' a m) =
    absurd (n t (subst⁻¹ (λ x. After st x t) (ended_once s l r l' r' d d').0 a))
reads_once (next l r t d a m) (done z f e) = absurd (none_unended l r (subst (λ x. Ended x l r) z d))
reads_once {s = s} (next l r t d a m) (short u n e) = absurd (unbroken_unended s l r u d)
reads_once {st = st} {s = s} (next l r t d a m) (unfit l' r' d' n e) =
    absurd (n t (subst (λ x. After st x t) (ended_once s l r l' r' d d').0 a))
reads_once {st = st} {k = k} {s = s} {b = b} (next l r t d a m) (next l' r' t' d' a' m') =
    let h = ended_once s l r l' r' d d' in
    let e : t ≡ t' = after_once st l t t' a (subst⁻¹ (λ x. After st x t') h.0 a') in
    reads_once m (subst⁻¹ (λ x. Reads t (suc k) x b) h.1 (subst⁻¹ (λ x. Reads x (suc k) r' b) e m'))

-- so bytes are the sheet of one table at most, are wrong in one line at most, and are not both
pub good_once : {st : State} {n : ℕ} {s : List ℕ} {t u : Labelled} → Reads st n s (good t) → Reads st n s (good u) → t ≡ u
good_once p q = let e = reads_once p q in cc

pub wrong_once : {st : State} {n : ℕ} {s : List ℕ} {j k : ℕ} → Reads st n s (wrong j) → Reads st n s (wrong k) → j ≡ k
wrong_once p q = let e = reads_once p q in cc

pub good_not_wrong {ℓ} : {A : Type ℓ} {st : State} {n : ℕ} {s : List ℕ} {t : Labelled} {k : ℕ} → Reads st n s (good t) → Reads st n s (wrong k) → A
good_not_wrong p q = let e = reads_once p q in absurd (let z : ◌≡◌ {A = ℕ} 0 1 = cc in omega arith)
