-- Laws of texts, byte by byte. Assumes nothing.
use mathlib.Core.Path.{◌≡◌, refl, sym, ap, subst, ◌∙◌}
use mathlib.Core.Bool.{Bool, true, false, cond}
use mathlib.Core.List.{List, [], ◌∷◌, ◌++◌, append-nil}
use Prim.Native.Nat.{ℕ, zero, suc, ◌-◌, ◌<◌}
use native.Mathlib.Omega.{arith}
use lib.ListN.{length, get_or, take, drop, length-drop}
use lib.Seq.{take_all, drop_at}
use Rattle.sheet.specs.Text.{Each}

-- two tests that agree case by case
pub cond_by : {A : Type 0} (t : Bool) {a b c d : A} → (t ≡ true → a ≡ c) → (t ≡ false → b ≡ d) → cond t a b ≡ cond t c d
cond_by true p q = p refl
cond_by false p q = q refl

-- the bytes of two texts one after the other are those of each
pub each_append : (P : ℕ → Type 0) (a b : List ℕ) → Each P a → Each P b → Each P (a ++ b)
each_append P [] b p q k h = q k (omega arith)
each_append P (x ∷ a) b p q zero h = p zero (omega arith)
each_append P (x ∷ a) b p q (suc k) h = each_append P a b (λ i g. p (suc i) (omega arith)) q k (omega arith)

pub each_left : (P : ℕ → Type 0) (a b : List ℕ) → Each P (a ++ b) → Each P a
each_left P [] b p k h = absurd (omega arith)
each_left P (x ∷ a) b p zero h = p zero (omega arith)
each_left P (x ∷ a) b p (suc k) h = each_left P a b (λ i g. p (suc i) (omega arith)) k (omega arith)

pub each_right : (P : ℕ → Type 0) (a b : List ℕ) → Each P (a ++ b) → Each P b
each_right P [] b p = p
each_right P (x ∷ a) b p = each_right P a b (λ i g. p (suc i) (omega arith))

pub each_one : (P : ℕ → Type 0) (b : ℕ) → P b → Each P (b ∷ [])
each_one P b p zero h = p
each_one P b p (suc k) h = absurd (omega arith)

pub each_cons : (P : ℕ → Type 0) (b : ℕ) (s : List ℕ) → P b → Each P s → Each P (b ∷ s)
each_cons P b s p q zero h = p
each_cons P b s p q (suc k) h = q k (omega arith)

pub each_weak : (P Q : ℕ → Type 0) (s : List ℕ) → ((b : ℕ) → P b → Q b) → Each P s → Each Q s
each_weak P Q s f p k h = f (get_or s k 0) (p k h)

-- the part from k to the end
pub rest : {A : Type 0} (s : List A) (k : ℕ) → take (length s - k) (drop k s) ≡ drop k s
rest s k = take_all (length s - k) (drop k s) (omega (arith, length-drop k s))

-- what is left of two equal texts that begin alike
pub append_cancel : {A : Type 0} (a x y : List A) → a ++ x ≡ a ++ y → x ≡ y
append_cancel a x y e = sym (drop_at a x (length a) refl) ∙ ap (λ l. drop (length a) l) e ∙ drop_at a y (length a) refl

-- s does not begin with a byte of this kind
abbrev pub Stops : (ℕ → Type 0) → List ℕ → Type 0
Stops P s = 0 < length s → P (get_or s 0 0) → ⊥

-- bytes of a kind at the front of a text whose bytes of that kind end with b are the front of b
pub run_prefix : (P : ℕ → Type 0) (a x b y : List ℕ) → Each P a → Stops P y → a ++ x ≡ b ++ y → (z : List ℕ) × (b ≡ a ++ z) × (x ≡ z ++ y)
run_prefix P [] x b y p q e = (b, refl, e)
run_prefix P (c ∷ a) x [] y p q e = absurd (q (rw (← e) (omega arith)) (rw (← e) (p 0 (omega arith))))
run_prefix P (c ∷ a) x (d ∷ b) y p q e =
    let r : (z : List ℕ) × (b ≡ a ++ z) × (x ≡ z ++ y) = run_prefix P a x b y (λ i g. p (suc i) (omega arith)) q (cc) in
    let h : c ≡ d = cc in
    (r.0, cc r.1, r.2)

no_more : (P : ℕ → Type 0) (z x y : List ℕ) → Each P z → Stops P x → x ≡ z ++ y → z ≡ []
no_more P [] x y p q e = refl
no_more P (d ∷ z) x y p q e = absurd (q (rw e (omega arith)) (rw e (p 0 (omega arith))))

-- The one law behind every reading: a text is parted in one way only into bytes of a kind and what does not go on with that kind.
-- Digits of a number, bytes before a line feed and bytes before a zero byte are such parts.
pub front_once : (P : ℕ → Type 0) (a x b y : List ℕ) → Each P a → Each P b → Stops P x → Stops P y → a ++ x ≡ b ++ y → (a ≡ b) × (x ≡ y)
front_once P a x b y p r q t e =
    let f : (z : List ℕ) × (b ≡ a ++ z) × (x ≡ z ++ y) = run_prefix P a x b y p t e in
    let n : f.0 ≡ [] = no_more P f.0 x y (each_right P a f.0 (subst (λ l. Each P l) f.1 r)) q f.2 in
    (sym (f.1 ∙ ap (λ l. a ++ l) n ∙ append-nil a), f.2 ∙ ap (λ l. l ++ y) n)
