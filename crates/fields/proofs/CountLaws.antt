-- The count behind the bytes of a heading. Assumes nothing.
use mathlib.Core.Path.{◌≡◌, sym, ap, ◌∙◌}
use mathlib.Core.List.{List, ◌++◌}
use Prim.Native.Nat.{ℕ, ◌<◌, ◌≤◌}
use native.Mathlib.Omega.{arith}
use Rattle.sheet.specs.Text.{text}
use Rattle.sheet.proofs.Bytes.{append_cancel}
use Rattle.sheet.proofs.Numbers.{text_once}
use Rattle.fields.specs.Fields.{NumberIs, CountAfter}

module _ (s head : List ℕ) (low high : ℕ) where
  pub other_start : ((x : List ℕ) → s ≡ head ++ x → ⊥) → (c : ℕ) → CountAfter s head low high c → ⊥
  other_start n c o = n (text c) o.is

  -- the bytes behind the first ones are the count's
  module _ {x : List ℕ} (e : s ≡ head ++ x) where
    behind : (c : ℕ) → CountAfter s head low high c → x ≡ text c
    behind c o = append_cancel head x (text c) (sym e ∙ o.is)

    pub count_nothing : ((v : ℕ) → NumberIs x high v → ⊥) → (c : ℕ) → CountAfter s head low high c → ⊥
    count_nothing none c o = none c (record { small = o.most; is = behind c o })

    pub count_low : (v : ℕ) → NumberIs x high v → v < low → (c : ℕ) → CountAfter s head low high c → ⊥
    count_low v f h c o = omega (arith, o.least, text_once v c (sym f.is ∙ behind c o))

    pub count_good : (v : ℕ) → NumberIs x high v → low ≤ v → CountAfter s head low high v
    count_good v f l = record { least = l; most = f.small; is = e ∙ ap (λ y. head ++ y) f.is }
