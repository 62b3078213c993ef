-- A page copied out: what stands on it up to its end is the printed answer. Assumes nothing.
use mathlib.Core.Path.{◌≡◌, refl, sym, ap, ◌∙◌}
use mathlib.Core.List.{List, []}
use Prim.Native.Nat.{ℕ, ◌<◌, ◌≤◌}
use native.Mathlib.Omega.{arith}
use lib.ListN.{length, take, drop, length-append}
use lib.Seq.{take_at}
use Rattle.orders.specs.Refusals.{gives, refuses}
use Rattle.sheet.specs.Text.{over}
use Rattle.lettering.specs.Putting.{Puts}
use Rattle.page.specs.Printed.{printed}
use Rattle.printing.specs.Promise.{SheetSays, Prints, PrintPromise, no_room, wrote}

module _ {s page page' : List ℕ} {k : ℕ} (p : Prints (SheetSays s) page page' k) where
  on_page : take k page' ≡ printed p.said
  on_page =
      ap (take k) p.puts.is ∙ take_at (printed p.said) (drop (length (printed p.said)) page) k (sym p.puts.is_length)

  pub page_inside : k ≤ length page'
  page_inside =
      omega (
        arith,
        p.puts.is_length,
        ap length p.puts.is,
        length-append (printed p.said) (drop (length (printed p.said)) page),
      )

  pub not_fitting : (out : List ℕ) → length out < k → PrintPromise s out out (refuses 12 [])
  not_fitting out h = no_room p.said p.holds (omega (arith, p.puts.is_length)) refl refl

  pub copied : {out out' : List ℕ} {w : ℕ} → k ≤ length out → Puts (take k page') out out' w → PrintPromise s out out' (gives w)
  copied {out} h q =
      wrote p.said p.holds (omega (arith, p.puts.is_length)) (ap gives (q.is_length ∙ ap length on_page))
      (q.is ∙ ap (λ x. over x out) on_page)
