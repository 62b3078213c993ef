-- What the promise of `column_heads` gives: about the promise, not about the code. Assumes nothing.
use mathlib.Core.Path.{◌≡◌, sym, ◌∙◌, ap}
use mathlib.Core.List.{List, []}
use Prim.Native.Nat.{ℕ, ◌<◌}
use native.Mathlib.Omega.{arith}
use lib.IntN.{ℤ, pos}
use lib.ListN.{length}
use Rattle.theory.specs.Limits.{order_limit, addition_limit}
use Rattle.theory.specs.Lists.{nums, ints}
use Rattle.theory.specs.Table.{entry}
use Rattle.theory.specs.Canon.{AtMost, ColumnHead, Heads}
use Rattle.theory.proofs.Duality.{head_once}
use Rattle.theory.proofs.Ties.{head_lowest, head_holders, head_empty, none_holds, canon_holders, column_head, column_head_within}
use Rattle.orders.specs.Refusals.{Said, First, gives, refuses, says}
use Rattle.orders.proofs.Refusals.{first_once, first_clear, not_both}
use Rattle.orders.proofs.Places.{within}
use Rattle.handed.specs.Conditions.{heads_more}
use Rattle.handed.specs.Handed.{Sound}
use Rattle.handed.proofs.Basics.{additions_known}
use Rattle.canon.specs.Answers.{Filled}
use Rattle.canon.specs.Promises.{head_lengths, leaves, fills}
use Rattle.canon.specs.Demands.{HeadBuffers, head_buffers, FillsHeads, heads_tests_of, Request1}
use Rattle.canon.proofs.Unique.{same_list}
use Rattle.canon.proofs.Theorems.{sound_clear, routes, routed_result}

-- ---- refusals
pub same_head_buffers : (b c : HeadBuffers) → b.heads ≡ c.heads → b.rows ≡ c.rows → b.counts ≡ c.counts → b ≡ c
same_head_buffers b c x y z =
    ap (λ v. head_buffers v b.rows b.counts) x ∙ ap (λ v. head_buffers c.heads v b.counts) y ∙ ap (λ v. head_buffers c.heads c.rows v) z

-- what a call that refuses nothing was handed, and what it wrote
pub record HeadsTold (n : ℕ) (t : List ℤ) (given : List ℕ) (b b' : HeadBuffers) : Type 0 where
  pub sound : Sound n t (head_lengths given b.heads b.rows b.counts)
  pub low : AtMost n (nums given) (λ i. addition_limit)
  pub heads_long : length b'.heads ≡ n
  pub counts_long : length b'.counts ≡ n
  pub tops : (j : ℕ) → j < n → ColumnHead n (entry t n) (nums given) j (ints b'.heads j) (nums b'.rows j) (nums b'.counts j)

module _ {n : ℕ} {t : List ℤ} {given : List ℕ} {r : Filled} (b b' : HeadBuffers) where
  pub heads_refused : FillsHeads n t given b r b' → (k : ℕ) → First (heads_tests_of n t given b) k → (says r ≡ refuses k []) × (b' ≡ b)
  heads_refused (leaves j q says x y z) k l =
      (says ∙ ap (λ (i : ℕ). refuses i []) (first_once (heads_tests_of n t given b) j k q l), same_head_buffers b' b x y z)
  heads_refused (fills clear says lh lr lc f) k l = absurd (first_clear (heads_tests_of n t given b) k l clear)

  pub heads_due : FillsHeads n t given b r b' → (k : ℕ) (vs : List ℕ) → says r ≡ refuses k vs → First (heads_tests_of n t given b) k × (vs ≡ [])
  heads_due (leaves j q says x y z) k vs e =
      let h : ◌≡◌ {A = Said Unit} (refuses j []) (refuses k vs) = sym says ∙ e in
      let same : j ≡ k = cc in
      let none : vs ≡ [] = cc in
      (rw same at q, none)
  heads_due (fills clear says lh lr lc f) k vs e = not_both tt k vs (sym says ∙ e)

  pub heads_told : FillsHeads n t given b r b' → says r ≡ gives tt → HeadsTold n t given b b'
  heads_told (leaves k q says x y z) e = not_both tt k [] (sym e ∙ says)
  heads_told (fills clear says lh lr lc f) e =
      let s = sound_clear n t (head_lengths given b.heads b.rows b.counts) (heads_more given) clear in
      record {
        sound = s;
        low = λ i hi. additions_known given clear.1.1.1.0 i (omega (arith, s.fitting.0));
        heads_long = lh;
        counts_long = lc;
        tops = f;
      }

-- heads of all columns under the same additions are the heads that were written
pub heads_same : {n : ℕ} {t : List ℤ} {given : List ℕ} {b b' : HeadBuffers} → HeadsTold n t given b b' → (h : List ℤ) → length h ≡ n
    → Heads n (entry t n) (nums given) (ints h) → b'.heads ≡ h
heads_same {n} {t} {b' = b'} w h long are =
    same_list (pos 0) b'.heads h w.heads_long long (λ j hj.
    let o = are j hj in
    head_once n (entry t n) (column_head n (entry t n) (w.tops j hj) o.inside o.maximum.present) o)

-- ---- request 1
module _ (n : ℕ) (t : List ℤ) where
  pub request_1 : Request1 n t
  request_1 =
      record {
        tells = λ given b b' r p e.
            let w = heads_told b b' p e in
            let f = w.tops in
            record {
              lowest = λ j hj some. head_lowest n (entry t n) (f j hj) some;
              counts_are = λ j hj. head_holders n (entry t n) (f j hj);
              empty_zero = λ j hj none. head_empty n (entry t n) (f j hj) none;
              zero_empty = λ j hj z. none_holds n (entry t n) (rw z at (head_holders n (entry t n) (f j hj)));
              within = λ j hj.
                  column_head_within n (entry t n) (within order_limit n t w.sound.square.square w.sound.entries) w.low hj (f j hj);
              canon_counts = λ c j hj. canon_holders n (entry t n) c hj (head_holders n (entry t n) (f j hj));
            };
        route_heads = λ start c c' q s b b' r p e u g.
            let w = (routed_result c c' (routes n t start c c' q p) s e).1 in
            heads_same (heads_told b b' u g) c'.heads w.heads_long w.solution.heads;
      }
