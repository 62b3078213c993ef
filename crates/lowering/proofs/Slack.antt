-- The search for the unsettled row with the least slack, one row after the other. Assumes nothing.
use mathlib.Core.Path.{◌≡◌, refl, sym}
use mathlib.Core.Bool.{true, false}
use Prim.Native.Nat.{ℕ, ◌+◌, ◌≤◌, ◌<◌}
use native.Mathlib.Omega.{arith}
use borrow.Author.Count.{below_more}
use Rattle.std.specs.Prelude.{Option, Some, None}
use Rattle.theory.specs.Lists.{nums, flags}
use Rattle.orders.proofs.Entries.{clash}
use Rattle.lowering.specs.Descent.{LeastOf, LeastSlack}
use Rattle.lowering.specs.declared.rows.Rows.{Rows}

-- One row more, row m. It is settled, or has no less to fall than the best before it, or less.
module _ {m : ℕ} {rows : Rows} where
  further : {k d : ℕ} → LeastOf m rows k d → (flags rows.settled m ≡ false → d + nums rows.floors m ≤ nums rows.additions m)
      → LeastOf (m + 1) rows k d
  further p le = record { inside = omega (arith, p.inside); unsettled = p.unsettled; amount = p.amount; least = below_more _ _ p.least le }

  pub slack_settled : {best : Option (ℕ × ℕ)} → LeastSlack m rows best → flags rows.settled m ≡ true → LeastSlack (m + 1) rows best
  slack_settled s e = record { found = λ x q. further (s.found x q) (λ u. clash e u); none = λ q. below_more _ _ (s.none q) e }

  pub slack_kept : {best : Option (ℕ × ℕ)} → LeastSlack m rows best → (best ≡ None → ⊥)
      → ((x : ℕ × ℕ) → best ≡ Some x → x.1 + nums rows.floors m ≤ nums rows.additions m) → LeastSlack (m + 1) rows best
  slack_kept s some le = record { found = λ x q. further (s.found x q) (λ u. le x q); none = λ q. absurd (some q) }

  pub slack_taken : {best : Option (ℕ × ℕ)} {d : ℕ} → LeastSlack m rows best → flags rows.settled m ≡ false
      → d + nums rows.floors m ≡ nums rows.additions m → ((x : ℕ × ℕ) → best ≡ Some x → d ≤ x.1) → LeastSlack (m + 1) rows (Some (m, d))
  slack_taken {best} {d} s u amount less = record { found = λ y q. let e : (m, d) ≡ y = cc in rw (sym e) taken; none = λ q. cc }
    where
      earlier : (b : Option (ℕ × ℕ)) → best ≡ b → (i : ℕ) → i < m → flags rows.settled i ≡ false
          → d + nums rows.floors i ≤ nums rows.additions i
      earlier None e i hi v = clash (s.none e i hi) v
      earlier (Some x) e i hi v = omega (arith, less x e, (s.found x e).least i hi v)

      taken : LeastOf (m + 1) rows m d
      taken = record { inside = omega arith; unsettled = u; amount = amount; least = below_more _ _ (earlier best refl) (λ v. omega arith) }
