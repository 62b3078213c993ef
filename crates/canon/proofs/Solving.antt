-- The solver by value: its answer from a canon that was completed, and what is handed out of it. Assumes nothing.
use mathlib.Core.Path.{◌≡◌, refl}
use native.Mathlib.Omega.{arith}
use Rattle.std.specs.Prelude.{Option, Some, None, Result, Err, ok_or}
use Rattle.orders.specs.declared.Refusal.{Refusal}
use mathlib.Core.List.{List}
use Prim.Native.Nat.{ℕ}
use lib.IntN.{ℤ}
use Rattle.theory.specs.Lists.{nums}
use Rattle.theory.specs.Table.{entry}
use Rattle.theory.specs.Canon.{LeastFrom}
use Rattle.outcome.specs.Completion.{WholeAnswerOf}
use Rattle.outcome.specs.declared.WholeAnswer.{WholeAnswer}
use Rattle.canon.specs.Solving.{AnswerFrom}

module _ {t : List ℤ} {n : ℕ} {start : List ℕ} {w : WholeAnswer} where
  -- the least canon from the start, completed
  pub found_whole : {l : List ℕ} → LeastFrom n (entry t n) (nums start) (nums l) → WholeAnswerOf t n l w → AnswerFrom t n start w
  found_whole least whole =
      record {
        solution =
            rw whole.same (record { additions = least; stars = whole.stars; heads = whole.heads; is_sum = whole.is_sum });
        from_one = whole.from_one;
      }

  -- the answer is the whole answer of its own additions
  pub answer_whole : AnswerFrom t n start w → WholeAnswerOf t n w.additions w
  answer_whole a =
      let s = a.solution in
      record { same = refl; stars = s.stars; from_one = a.from_one; heads = s.heads; is_sum = s.is_sum }

-- where a value was asked of an Option with a refusal in its place, the refusal is that one, and the Option held nothing
pub none_refused : {X : Type 0} (o : Option X) (q e : Refusal) {r : Result X Refusal} → r ≡ ok_or o q → r ≡ Err e → (o ≡ None) × (e ≡ q)
none_refused None q e v w = (refl, cc)
none_refused (Some x) q e v w = absurd (let z : ◌≡◌ {A = ℕ} 0 1 = cc in omega arith)
