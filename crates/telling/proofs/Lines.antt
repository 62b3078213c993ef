-- What the reader says when it refuses, by whether the refusal is a wrong line. Assumes nothing.
use mathlib.Core.Path.{◌≡◌, ap, ◌∙◌}
use Rattle.std.specs.Prelude.{List, [], ◌∷◌, ℕ, Result, Err}
use Rattle.orders.specs.Refusals.{refuses, refusal, says, number_of}
use Rattle.orders.specs.declared.Refusal.{Refusal}
use Rattle.orders.specs.declared.Refusal.TheVariants.{Line}
use Rattle.orders.proofs.Refusals.{values_none}

-- a wrong line is refusal 10, with its number
pub line_said : {X : Type 0} {a : Result X Refusal} {e : Refusal} {k : ℕ} → a ≡ Err e → e ≡ Line k → says a ≡ refuses 10 (k ∷ [])
line_said p q = ap says p ∙ ap refusal q

-- every other refusal, which the last arm of a match leaves, is its number alone
pub other_said : {X : Type 0} {a : Result X Refusal} {e : Refusal} → a ≡ Err e → ((k : ℕ) → e ≡ Line k → ⊥) → says a ≡ refuses (number_of e) []
other_said {a = a} {e = e} p h = ap says p ∙ ap (λ (v : List ℕ). refuses (number_of e) v) (values_none e h)
