-- No second answer and no second memory meets the promise of a call. Assumes nothing.
use mathlib.Core.Path.{◌≡◌, sym, ◌∙◌, ap}
use mathlib.Core.List.{List, [], ◌∷◌}
use Prim.Native.Nat.{ℕ, ◌<◌}
use native.Mathlib.Omega.{arith}
use lib.IntN.{ℤ, pos}
use lib.ListN.{length, get_or}
use lib.Seq.{ext_get_or}
use Rattle.theory.specs.Lists.{nums, ints, columns, StarList}
use Rattle.theory.specs.Canon.{Solution}
use Rattle.theory.specs.Table.{entry}
use Rattle.theory.proofs.Unique.{solution_once}
use Rattle.theory.proofs.Ties.{column_head_once}
use Rattle.orders.specs.Refusals.{Test, gives, says}
use Rattle.orders.proofs.Refusals.{first_clear, refused_once, says_once}
use Rattle.handed.specs.Conditions.{canon_tests, heads_tests}
use Rattle.canon.specs.Answers.{Answer, Verdict, Filled}
use Rattle.canon.specs.Promises.{Routed, refused, answered, Judges, declines, says_yes, says_no, head_lengths, ColumnHeads, leaves, fills}

-- ---- routes
-- two lists of one length that agree below it are one
pub same_list : {X : Type 0} (d : X) {n : ℕ} (l m : List X) → length l ≡ n → length m ≡ n → ((i : ℕ) → i < n → get_or l i d ≡ get_or m i d) → l ≡ m
same_list d l m p q e = ext_get_or d l m (p ∙ sym q) (λ i hi. e i (omega arith))

-- stars from 1 are told by their columns
same_stars : {n : ℕ} (s t : List ℕ) → StarList n s → StarList n t → ((i : ℕ) → i < n → columns s i ≡ columns t i) → s ≡ t
same_stars s t p q e =
    same_list 0 s t p.long q.long (λ i hi. omega (arith, e i hi, p.from_one i hi, q.from_one i hi))

-- what two answers to one call have in common: everything
pub record One (r s : Answer) (adds adds' stars stars' : List ℕ) (heads heads' : List ℤ) : Type 0 where
  pub answer : r ≡ s
  pub same_adds : adds ≡ adds'
  pub same_stars : stars ≡ stars'
  pub same_heads : heads ≡ heads'

-- two solutions in lists of the wanted length, whatever was lent and whatever was tested
pub solved_once : {n : ℕ} {a : ℕ → ℕ → ℤ} {r s : Answer} {x y : ℤ} (adds adds' stars stars' : List ℕ) (heads heads' : List ℤ)
    → says r ≡ gives x → says s ≡ gives y → length adds ≡ n → length adds' ≡ n → StarList n stars → StarList n stars' → length heads ≡ n → length heads' ≡ n
    → Solution n a (λ i. 0) (nums adds) (columns stars) (ints heads) x → Solution n a (λ i. 0) (nums adds') (columns stars') (ints heads') y
    → One r s adds adds' stars stars' heads heads'
solved_once {n} {a} {r} {s} adds adds' stars stars' heads heads' p q la la' ls ls' lh lh' u v =
    let o = solution_once n a u v in
    record {
      answer = says_once r s (p ∙ ap gives o.one_sum ∙ sym q);
      same_adds = same_list 0 adds adds' la la' o.additions;
      same_stars = same_stars stars stars' ls ls' o.stars;
      same_heads = same_list (pos 0) heads heads' lh lh' o.heads;
    }

-- The promise of routes 1, 2 and 3 determines the answer and the lent memory, whatever is handed in: no second answer and no
-- second memory meets it.
pub routed_once : {tests : List Test} {n : ℕ} {t : List ℤ} {adds stars : List ℕ} {heads : List ℤ} {r s : Answer} {a b c d : List ℕ} {e f : List ℤ}
    → Routed tests n t adds stars heads r a c e → Routed tests n t adds stars heads s b d f → One r s a b c d e f
routed_once {tests} {r = r} {s = s} (refused j p u x y z) (refused k q v x' y' z') =
    record {
      answer = says_once r s (refused_once tests p u q v);
      same_adds = x ∙ sym x';
      same_stars = y ∙ sym y';
      same_heads = z ∙ sym z';
    }
routed_once {tests} (refused j p u x y z) (answered w q v la ls lh sol) = absurd (first_clear tests j p q)
routed_once {tests} (answered w q v la ls lh sol) (refused j p u x y z) = absurd (first_clear tests j p q)
routed_once {a = a} {b} {c} {d} {e} {f} (answered x p u la ls lh sol) (answered y q v la' ls' lh' sol') =
    solved_once a b c d e f u v la la' ls ls' lh lh' sol sol'

-- ---- the yes-or-no
-- the promise of the yes-or-no determines its answer
module _ (n : ℕ) (t : List ℤ) (given : List ℕ) where
  abbrev tests : List Test
  tests = canon_tests n t given (length given ∷ [])

  pub judges_once : {v w : Verdict} → Judges n t given v → Judges n t given w → v ≡ w
  judges_once {v} {w} (declines j p u) (declines k q x) = says_once v w (refused_once tests p u q x)
  judges_once (declines j p u) (says_yes q x s) = absurd (first_clear tests j p q)
  judges_once (declines j p u) (says_no q x s) = absurd (first_clear tests j p q)
  judges_once (says_yes q x s) (declines j p u) = absurd (first_clear tests j p q)
  judges_once {v} {w} (says_yes q x s) (says_yes p y t) = says_once v w (x ∙ sym y)
  judges_once (says_yes q x s) (says_no p y f) = absurd (f s)
  judges_once (says_no q x f) (declines j p u) = absurd (first_clear tests j p q)
  judges_once (says_no q x f) (says_yes p y s) = absurd (f s)
  judges_once {v} {w} (says_no q x f) (says_no p y g) = says_once v w (x ∙ sym y)

-- ---- the heads of all columns
-- what two answers to one call have in common: everything
pub record OneFilling (r s : Filled) (heads heads' : List ℤ) (rows rows' counts counts' : List ℕ) : Type 0 where
  pub answer : r ≡ s
  pub same_heads : heads ≡ heads'
  pub same_rows : rows ≡ rows'
  pub same_counts : counts ≡ counts'

-- the promise of the heads of all columns determines its answer and the lent memory
module _ (n : ℕ) (t : List ℤ) (given : List ℕ) (heads : List ℤ) (rows counts : List ℕ) where
  pub column_heads_once : {r s : Filled} {h k : List ℤ} {a b c d : List ℕ} → ColumnHeads n t given heads rows counts r h a c
      → ColumnHeads n t given heads rows counts s k b d → OneFilling r s h k a b c d
  column_heads_once {r} {s} (leaves i p u x y z) (leaves j q v x' y' z') =
      record {
        answer = says_once r s (refused_once (heads_tests n t given (head_lengths given heads rows counts)) p u q v);
        same_heads = x ∙ sym x';
        same_rows = y ∙ sym y';
        same_counts = z ∙ sym z';
      }
  column_heads_once (leaves i p u x y z) (fills q v lh lr lc f) = absurd (first_clear (heads_tests n t given (head_lengths given heads rows counts)) i p q)
  column_heads_once (fills q v lh lr lc f) (leaves i p u x y z) = absurd (first_clear (heads_tests n t given (head_lengths given heads rows counts)) i p q)
  column_heads_once {r} {s} {h} {k} {a} {b} {c} {d} (fills p u lh lr lc f) (fills q v lh' lr' lc' g) =
      record {
        answer = says_once r s (u ∙ sym v);
        same_heads = same_list (pos 0) h k lh lh' (λ j hj. (column_head_once n (entry t n) (f j hj) (g j hj)).one_head);
        same_rows = same_list 0 a b lr lr' (λ j hj. (column_head_once n (entry t n) (f j hj) (g j hj)).one_row);
        same_counts = same_list 0 c d lc lc' (λ j hj. (column_head_once n (entry t n) (f j hj) (g j hj)).one_count);
      }
