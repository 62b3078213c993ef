-- No second answer and no second memory meets the writer's promise. Assumes nothing.
use mathlib.Core.Path.{◌≡◌, sym, ap, ◌∙◌}
use mathlib.Core.List.{List}
use Prim.Native.Nat.{ℕ}
use lib.ListN.{length}
use Rattle.std.specs.Prelude.{Result}
use Rattle.orders.specs.Refusals.{Said, gives, says}
use Rattle.orders.specs.declared.Refusal.{Refusal}
use Rattle.orders.proofs.Refusals.{first_clear, refused_once, says_once}
use Rattle.sheet.specs.Text.{over}
use Rattle.sheet.specs.Sheet.{Labelled, sheet_of}
use Rattle.sheet.proofs.Slots.{slots_once}
use Rattle.writer.specs.Promise.{Model, Labelling, writer_tests, WritePromise, refused, wrote}

-- what is handed is one labelled table at most
pub labelling_once : (h : Model) (x y : Labelled) → Labelling h x → Labelling h y → x ≡ y
labelling_once h x y p q =
    let r : x.row_labels ≡ y.row_labels =
    slots_once x.row_labels y.row_labels p.rows_stand q.rows_stand (p.rows_are ∙ sym q.rows_are) in
    let c : x.col_labels ≡ y.col_labels =
    slots_once x.col_labels y.col_labels p.cols_stand q.cols_stand (p.cols_are ∙ sym q.cols_are) in
    let e : x.entries ≡ y.entries = p.entries_are ∙ sym q.entries_are in
    ap (λ v. record { row_labels = v; col_labels = x.col_labels; entries = x.entries }) r
    ∙ ap (λ v. record { row_labels = y.row_labels; col_labels = v; entries = x.entries }) c
    ∙ ap (λ v. record { row_labels = y.row_labels; col_labels = y.col_labels; entries = v }) e

pub record Same (a b : Said ℕ) (m n : List ℕ) : Type 0 where
  pub answer : a ≡ b
  pub memory : m ≡ n

pub promise_once : (h : Model) (o p q : List ℕ) (a b : Said ℕ) → WritePromise h o p a → WritePromise h o q b → Same a b p q
promise_once h o p q a b (refused j l e m) (refused k l' e' m') =
    record { answer = refused_once (writer_tests h o) l e l' e'; memory = m ∙ sym m' }
promise_once h o p q a b (refused j l e m) (wrote t c i e' m') = absurd (first_clear (writer_tests h o) j l c)
promise_once h o p q a b (wrote t c i e m) (refused k l e' m') = absurd (first_clear (writer_tests h o) k l c)
promise_once h o p q a b (wrote t c i e m) (wrote t' c' i' e' m') =
    let u : t ≡ t' = labelling_once h t t' i i' in
    record {
      answer = e ∙ ap (λ x. gives (length (sheet_of x))) u ∙ sym e';
      memory = m ∙ ap (λ x. over (sheet_of x) o) u ∙ sym m';
    }

-- Uniqueness of the writer: two results with two memories that both meet the statement are the same result and the same memory.
pub write_once : (h : Model) (o p q : List ℕ) (a b : Result ℕ Refusal) → WritePromise h o p (says a) → WritePromise h o q (says b) → (a ≡ b) × (p ≡ q)
write_once h o p q a b f g =
    let r = promise_once h o p q (says a) (says b) f g in (says_once a b r.answer, r.memory)
