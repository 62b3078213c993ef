-- The line that the reading reports is the first wrong one, as it is said of whole sheets; and that says one line. Assumes nothing.
use mathlib.Core.Path.{◌≡◌, sym, ap, subst, subst⁻¹, ◌∙◌}
use mathlib.Core.List.{List, [], ◌∷◌, ◌++◌, append_assoc, append-nil}
use Prim.Native.Nat.{ℕ, ◌+◌}
use native.Mathlib.Omega.{arith}
use lib.ListN.{length}
use Rattle.sheet.specs.Text.{feed}
use Rattle.sheet.specs.Sheet.{ended_lines}
use Rattle.sheet.specs.Reading.{Ended, State, start, table_of, wrong, Reads, short, unfit, WrongLine}
use Rattle.sheet.specs.FirstWrong.{FirstWrong}
use Rattle.sheet.proofs.Lines.{Cut, unbroken, broken, cut}
use Rattle.sheet.proofs.Once.{wrong_once, good_not_wrong}
use Rattle.sheet.proofs.Runs.{Run, none, then, run_append, run_split, run_once, run_one, after_unbroken, first, run_reads, Halt}
use Rattle.sheet.proofs.Runs.{at_end, at_fault, Course, course}
use Rattle.sheet.proofs.Matching.{at_start, run_stage, ends_written, written_is_read}
use Rattle.sheet.proofs.Fronts.{can_run, run_can}

-- What is reported is the first wrong line: a line that could stand after those before it would be let stand, and a sheet is no wrong one.
pub wrong_is_first : (s : List ℕ) (k : ℕ) → WrongLine s k → FirstWrong s k
wrong_is_first s k r = go (course r).stop
  where
    c : Course start 1 s (wrong k)
    c = course r

    go : Halt c.end (1 + length c.lines) c.rest (wrong k) → FirstWrong s k
    go (at_end z f e) = absurd (let z : ◌≡◌ {A = ℕ} 0 1 = cc in omega arith)
    go (at_fault n e) =
        let h : k ≡ 1 + length c.lines = cc in
        record {
          before = c.lines;
          rest = c.rest;
          parts = c.parts;
          number = omega arith;
          stand = run_can c.lines c.run;
          next_cannot = λ l x q w.
              let p = can_run (c.lines ++ (l ∷ [])) w in
              let b = run_split c.lines (l ∷ []) p.1 in
              let a = run_one (subst (λ y. Run y (l ∷ []) p.0) (run_once c.lines b.front c.run) b.back) in
              n l x p.0 (subst⁻¹ (λ y. Ended y l x) q (first l x (after_unbroken a))) a;
          no_sheet = λ t w. good_not_wrong (written_is_read t w.stands) (subst (λ y. Reads start 1 y (wrong k)) w.is r);
        }

-- And the first wrong line is reported: those before it are let stand, and then no line can come, and the sheet cannot end.
pub first_is_wrong : (s : List ℕ) (k : ℕ) → FirstWrong s k → WrongLine s k
first_is_wrong s k f =
    let r = can_run f.before f.stand in
    let e : k ≡ 1 + length f.before = omega (arith, f.number) in
    subst⁻¹ (λ x. WrongLine x k) f.parts (run_reads 1 f.rest (wrong k) r.1 (go (cut f.rest) r.1 e))
  where
    go : {st : State} → Cut f.rest → Run start f.before st → k ≡ 1 + length f.before → Reads st (1 + length f.before) f.rest (wrong k)
    go (broken l x d) r e =
        unfit l x d
        (λ st' a.
        f.next_cannot l x (d.parts ∙ sym (append_assoc l (feed ∷ []) x)) (run_can (f.before ++ (l ∷ [])) (run_append r (then l a none))))
        (ap wrong e)
    go {st} (unbroken u) r e =
        short u
        (λ z n.
        let w = ends_written (run_stage [] at_start r) n in
        let e : s ≡ ended_lines f.before = f.parts ∙ ap (λ x. ended_lines f.before ++ x) z ∙ append-nil (ended_lines f.before) in
        f.no_sheet (table_of st) (record { stands = w.stands; is = e ∙ w.is }))
        (ap wrong e)

-- so at most one line is the first wrong one
pub first_once : (s : List ℕ) (j k : ℕ) → FirstWrong s j → FirstWrong s k → j ≡ k
first_once s j k p q = wrong_once (first_is_wrong s j p) (first_is_wrong s k q)
