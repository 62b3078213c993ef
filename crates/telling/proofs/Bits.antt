-- A yes-or-no that is told as a number. Assumes nothing.
use Rattle.std.proofs.Common.{◌≡◌, ◌∙◌, Bool, ℕ, sym, refl}
use Rattle.std.specs.Prelude.{Result, Ok, Err, MatchResult, IsOkAnd}
use Rattle.orders.specs.Refusals.{says, number_of, values_of}
use Rattle.orders.specs.declared.Refusal.{Refusal}
use Rattle.orders.proofs.Refusals.{not_both, given_once, same_refusal}
use Rattle.telling.specs.Telling.{Returns, gave, kept_back, itself, bit}

-- E b x says that the closure makes x of b. An answer whose value is made of the verdict's is told as the verdict is.
pub told_bit : (E : Bool → ℕ → Type 0) (v : Result Bool Refusal) (m : Result ℕ Refusal) {r before after : ℕ}
    → MatchResult v (λ b. IsOkAnd m (E b)) (λ e. m ≡ Err e) → ((b : Bool) (x : ℕ) → E b x → x ≡ bit b)
    → Returns itself (says m) r before after → Returns bit (says v) r before after
told_bit E (Ok b) (Ok x) is made (gave y f r a) = gave b refl r (a ∙ sym (given_once x y f) ∙ made b x is)
told_bit E (Ok b) (Ok x) is made (kept_back k values f r a) = not_both x k values f
told_bit E (Ok b) (Err e) is made t = absurd is
told_bit E (Err e) m is made (gave x f r a) = not_both x (number_of e) (values_of e) (sym (rw is at f))
told_bit E (Err e) m is made (kept_back k values f r a) = kept_back k values (same_refusal e k values (rw is at f)) r a
