-- No second answer and no second memory meets the reader's promise. Assumes nothing.
use mathlib.Core.Path.{◌≡◌, sym, ap, ◌∙◌}
use mathlib.Core.List.{List, [], ◌∷◌}
use Prim.Native.Nat.{ℕ}
use lib.ListN.{length}
use Rattle.std.specs.Prelude.{Result}
use Rattle.orders.specs.declared.Refusal.{Refusal}
use Rattle.orders.specs.Refusals.{Said, gives, refuses, says}
use Rattle.orders.proofs.Refusals.{first_clear, refused_once, says_once}
use Rattle.sheet.proofs.Matching.{labelled_once}
use Rattle.sheet.proofs.FirstWrong.{first_once}
use Rattle.reader.specs.Promise.{Lent, reader_tests, written, ReadPromise, refused, wrong_line, read}

pub record Same (a b : Said ℕ) (m n : Lent) : Type 0 where
  pub answer : a ≡ b
  pub memory : m ≡ n

pub promise_once : (s : List ℕ) (m p q : Lent) (a b : Said ℕ) → ReadPromise s m p a → ReadPromise s m q b → Same a b p q
promise_once s m p q a b (refused j l e f) (refused k l' e' f') =
    record { answer = refused_once (reader_tests s m) l e l' e'; memory = f ∙ sym f' }
promise_once s m p q a b (refused j l e f) (wrong_line k c r e' f') = absurd (first_clear (reader_tests s m) j l c)
promise_once s m p q a b (refused j l e f) (read t c r e' f') = absurd (first_clear (reader_tests s m) j l c)
promise_once s m p q a b (wrong_line k c r e f) (refused j l e' f') = absurd (first_clear (reader_tests s m) j l c)
promise_once s m p q a b (wrong_line k c r e f) (wrong_line k' c' r' e' f') =
    record { answer = e ∙ ap (λ x. refuses 10 (x ∷ [])) (first_once s k k' r r') ∙ sym e'; memory = f ∙ sym f' }
promise_once s m p q a b (wrong_line k c r e f) (read t c' r' e' f') = absurd (r.no_sheet t r')
promise_once s m p q a b (read t c r e f) (refused j l e' f') = absurd (first_clear (reader_tests s m) j l c)
promise_once s m p q a b (read t c r e f) (wrong_line k c' r' e' f') = absurd (r'.no_sheet t r)
promise_once s m p q a b (read t c r e f) (read t' c' r' e' f') =
    let h : t ≡ t' = labelled_once r r' in
    record {
      answer = e ∙ ap (λ x. gives (length x.row_labels)) h ∙ sym e';
      memory = f ∙ ap (λ x. written x m) h ∙ sym f';
    }

-- Uniqueness of the reader: two results with two memories that both meet the statement are the same result and the same memory.
pub read_once : (s : List ℕ) (m p q : Lent) (a b : Result ℕ Refusal) → ReadPromise s m p (says a) → ReadPromise s m q (says b) → (a ≡ b) × (p ≡ q)
read_once s m p q a b f g =
    let r = promise_once s m p q (says a) (says b) f g in (says_once a b r.answer, r.memory)
