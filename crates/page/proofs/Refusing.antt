-- A refusal's line, with the number of a wrong line and without. Assumes nothing.
use mathlib.Core.Path.{◌≡◌, refl, sym, ap, ◌∙◌}
use mathlib.Core.List.{List, [], ◌∷◌, ◌++◌, append-nil}
use Prim.Native.Nat.{ℕ}
use Rattle.orders.specs.declared.Refusal.{Refusal}
use Rattle.orders.specs.declared.Refusal.TheVariants.{Line}
use Rattle.orders.specs.Refusals.{number_of, refusal}
use Rattle.orders.proofs.Refusals.{values_none}
use Rattle.sheet.specs.Text.{ascii, text, digits, ended}
use Rattle.page.specs.Printed.{spaced, printed}

-- what stands before the last number of a refusal's line
abbrev pub refused_head : List ℕ
refused_head = ascii "refused "

abbrev pub line_head : List ℕ
line_head = ascii "refused 10 "

ten_is : text 10 ≡ ascii "10"
unfolding text digits
ten_is = refl

pub refused_line : (r : Refusal) (k : ℕ) → r ≡ Line k → ended (line_head ++ text k) ≡ printed (refusal r)
refused_line r k e =
    rw e
    (ap (λ x. ended (line_head ++ x)) (sym (append-nil (text k)))
    ∙ ap (λ x. ended (refused_head ++ (x ++ spaced (k ∷ [])))) (sym ten_is))

pub refused_other : (r : Refusal) → ((k : ℕ) → r ≡ Line k → ⊥) → ended (refused_head ++ text (number_of r)) ≡ printed (refusal r)
refused_other r o =
    ap (λ x. ended (refused_head ++ x)) (sym (append-nil (text (number_of r))))
    ∙ ap (λ x. ended (refused_head ++ (text (number_of r) ++ spaced x))) (sym (values_none r o))
