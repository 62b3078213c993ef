-- Lines: where one ends, and what an order line says, is read in one way only. Assumes nothing.
use mathlib.Core.Path.{◌≡◌, refl, sym, ap, subst, subst⁻¹, ◌∙◌}
use mathlib.Core.Logic.{◌≢◌}
use mathlib.Core.Bool.{not}
use mathlib.Core.List.{List, [], ◌∷◌, ◌++◌}
use Prim.Native.Nat.{ℕ, suc, ◌+◌}
use native.Mathlib.Omega.{arith}
use native.Mathlib.Decide.{ℕ_discrete}
use lib.Dec.{T, eqb, T_not}
use lib.IntN.{ℤ, pos, negsuc}
use lib.ListN.{length, get_or, length-append}
use Rattle.theory.proofs.Search.{all, all_told}
use Rattle.sheet.specs.Text.{Each, feed, blank, minus, text, signed, rows_head, cols_head, orders_head, Digit, NoDigit}
use Rattle.sheet.specs.Labels.{Form}
use Rattle.sheet.specs.Sheet.{order_text}
use Rattle.sheet.specs.Reading.{Ended, Section, opening, of_rows, of_cols, of_orders, Heading}
use Rattle.sheet.proofs.Bytes.{front_once, each_weak, each_append, each_cons, each_right, append_cancel}
use Rattle.sheet.proofs.Numbers.{text_digits, text_once, number_once}
use Rattle.sheet.proofs.Slots.{letter_low}

-- every byte is not a line feed
abbrev pub Unbroken : List ℕ → Type 0
Unbroken s = Each (λ b. b ≢ feed) s

-- the first line is found in one way only
pub ended_once : (s a x b y : List ℕ) → Ended s a x → Ended s b y → (a ≡ b) × (x ≡ y)
ended_once s a x b y p q =
    let r : (a ≡ b) × (feed ∷ x ≡ feed ∷ y) =
    front_once (λ c. c ≢ feed) a (feed ∷ x) b (feed ∷ y) p.whole q.whole (λ h f. f refl) (λ h f. f refl) (sym p.parts ∙ q.parts) in
    (r.0, cc r.1)

-- a text without a line feed has no line
pub unbroken_unended : (s l x : List ℕ) → Unbroken s → Ended s l x → ⊥
unbroken_unended s l x u e =
    each_right (λ c. c ≢ feed) l (feed ∷ x) (subst (λ y. Unbroken y) e.parts u) 0 (omega arith) refl

pub none_unended : (l x : List ℕ) → Ended [] l x → ⊥
none_unended l x e = omega (arith, ap length e.parts, length-append l (feed ∷ x))

pub data Cut (s : List ℕ) : Type 0 where
  unbroken : Unbroken s → Cut s
  broken : (l x : List ℕ) → Ended s l x → Cut s

-- a text has a first line or no line feed
unfoldable pub cut : (s : List ℕ) → Cut s
cut [] = unbroken (λ k h. absurd (omega arith))
cut (b ∷ s) =
    elim (ℕ_discrete b feed) [
      | yes e ↦ broken [] s (record { parts = ap (λ y. y ∷ s) e; whole = λ k h. absurd (omega arith) })
      | no ne ↦ elim (cut s) [
        | unbroken u ↦ unbroken (each_cons (λ c. c ≢ feed) b s ne u)
        | broken l x e ↦ broken (b ∷ l) x (record { parts = ap (λ y. b ∷ y) e.parts; whole = each_cons (λ c. c ≢ feed) b l ne e.whole })
      ]
    ]

-- the texts of lines have no line feed
pub text_unbroken : (n : ℕ) → Unbroken (text n)
text_unbroken n = each_weak Digit (λ b. b ≢ feed) (text n) (λ b d. omega arith) (text_digits n)

pub label_unbroken : (l : List ℕ) → Form l → Unbroken l
label_unbroken l f k h e = omega (arith, letter_low (get_or l k 0) (f.letters k h))

pub signed_unbroken : (v : ℤ) → Unbroken (signed v)
signed_unbroken (pos n) = text_unbroken n
signed_unbroken (negsuc n) = each_cons (λ b. b ≢ feed) minus (text (suc n)) (omega arith) (text_unbroken (suc n))

pub order_unbroken : (i j : ℕ) (v : ℤ) → Unbroken (order_text i j v)
order_unbroken i j v =
    each_append (λ b. b ≢ feed) (text (i + 1)) (blank ∷ (text (j + 1) ++ blank ∷ signed v)) (text_unbroken (i + 1))
    (each_cons (λ b. b ≢ feed) blank (text (j + 1) ++ blank ∷ signed v) (omega arith)
    (each_append (λ b. b ≢ feed) (text (j + 1)) (blank ∷ signed v) (text_unbroken (j + 1))
    (each_cons (λ b. b ≢ feed) blank (signed v) (omega arith) (signed_unbroken v))))

head_unbroken : (h : List ℕ) (c : ℕ) → Unbroken h → Unbroken (h ++ text c)
head_unbroken h c u = each_append (λ b. b ≢ feed) h (text c) u (text_unbroken c)

-- so do the names of the sections: their bytes are compared with it one by one
unbroken_by : (h : List ℕ) → T (all (length h) (λ k. not (eqb (get_or h k 0) feed))) → Unbroken h
unbroken_by h t k p e =
    T_not (eqb (get_or h k 0) feed) (all_told (length h) (λ i. not (eqb (get_or h i 0) feed)) t k p) (subst⁻¹ (λ b. T (eqb b feed)) e tt)

pub rows_unbroken : (c : ℕ) → Unbroken (rows_head ++ text c)
unfolding all
rows_unbroken c = head_unbroken rows_head c (unbroken_by rows_head tt)

pub cols_unbroken : (c : ℕ) → Unbroken (cols_head ++ text c)
unfolding all
cols_unbroken c = head_unbroken cols_head c (unbroken_by cols_head tt)

pub orders_unbroken : (c : ℕ) → Unbroken (orders_head ++ text c)
unfolding all
orders_unbroken c = head_unbroken orders_head c (unbroken_by orders_head tt)

-- the sections by number, so that arithmetic tells two of them apart
abbrev pub rank : Section → ℕ
rank opening = 0
rank of_rows = 1
rank of_cols = 2
rank of_orders = 3

-- a heading's count
pub heading_once : (s : Section) (n c d : ℕ) (l : List ℕ) → Heading s n c l → Heading s n d l → c ≡ d
heading_once opening n c d l p q = text_once c d (append_cancel rows_head (text c) (text d) (sym p.2 ∙ q.2))
heading_once of_rows n c d l p q = omega arith
heading_once of_cols n c d l p q = text_once c d (append_cancel orders_head (text c) (text d) (sym p.2 ∙ q.2))
heading_once of_orders n c d l p q = absurd p

-- an order's value
minus_no_text : (n : ℕ) (x : List ℕ) → text n ≡ minus ∷ x → ⊥
minus_no_text n x e = omega (arith, subst (λ l. Each Digit l) e (text_digits n) 0 (omega arith))

pub signed_once : (v w : ℤ) → signed v ≡ signed w → v ≡ w
signed_once (pos n) (pos m) e = ap pos (text_once n m e)
signed_once (pos n) (negsuc m) e = absurd (minus_no_text n (text (suc m)) e)
signed_once (negsuc n) (pos m) e = absurd (minus_no_text m (text (suc n)) (sym e))
signed_once (negsuc n) (negsuc m) e =
    let h : suc n ≡ suc m = text_once (suc n) (suc m) (cc) in
    let g : n ≡ m = omega arith in ap negsuc g

-- a blank ends a number
pub blank_stops : (s : List ℕ) → NoDigit (blank ∷ s)
blank_stops s h d = omega arith

-- an order line's row, column and order
pub record SameOrder (i j : ℕ) (v : ℤ) (i' j' : ℕ) (v' : ℤ) : Type 0 where
  pub row : i ≡ i'
  pub col : j ≡ j'
  pub value : v ≡ v'

pub order_once : (i j : ℕ) (v : ℤ) (i' j' : ℕ) (v' : ℤ) → order_text i j v ≡ order_text i' j' v' → SameOrder i j v i' j' v'
order_once i j v i' j' v' e =
    let r = number_once (i + 1) (i' + 1) (blank ∷ (text (j + 1) ++ blank ∷ signed v)) (blank ∷ (text (j' + 1) ++ blank ∷ signed v'))
    (blank_stops (text (j + 1) ++ blank ∷ signed v)) (blank_stops (text (j' + 1) ++ blank ∷ signed v')) e in
    let t : text (j + 1) ++ blank ∷ signed v ≡ text (j' + 1) ++ blank ∷ signed v' = cc r.1 in
    let c = number_once (j + 1) (j' + 1) (blank ∷ signed v) (blank ∷ signed v') (blank_stops (signed v)) (blank_stops (signed v')) t in
    let u : signed v ≡ signed v' = cc c.1 in
    record { row = omega (arith, r.0); col = omega (arith, c.0); value = signed_once v v' u }
