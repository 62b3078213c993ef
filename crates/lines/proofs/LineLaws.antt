-- Order lines and headings. Assumes nothing.
use mathlib.Core.Path.{◌≡◌, subst}
use mathlib.Core.List.{List, ◌∷◌, ◌++◌}
use Prim.Native.Nat.{ℕ, ◌+◌}
use native.Mathlib.Omega.{arith}
use lib.IntN.{ℤ}
use lib.ListN.{length, take, drop}
use Rattle.theory.specs.Limits.{order_limit}
use Rattle.sheet.specs.Text.{blank, text, signed}
use Rattle.fields.specs.declared.Front.{Front}
use Rattle.fields.specs.Fields.{LineIs, FieldIs, SignedIs}
use Rattle.fields.proofs.LineLaws.{line_of, line_only}
use Rattle.fields.proofs.NumberLaws.{field_of, behind_field}
use Rattle.lines.specs.declared.Placed.{Placed}
use Rattle.lines.specs.declared.Section.{Section}
use Rattle.lines.specs.Parts.{OrderIs, HeadingCount, HeadingIs}

-- a line without a row, without a column, without an order; and an order line
module _ (n : ℕ) (l : List ℕ) where
  pub no_row : ((f : Front) → FieldIs l n f → ⊥) → (o : Placed) → OrderIs n l o → ⊥
  no_row none o h =
      none _ (field_of l n (o.row + 1) (text (o.col + 1) ++ blank ∷ signed o.order) (omega arith) (omega (arith, h.row)) h.is)

  module _ {row : Front} (f : FieldIs l n row) where
    behind_row : (o : Placed) → OrderIs n l o → drop row.taken l ≡ text (o.col + 1) ++ blank ∷ signed o.order
    behind_row o h = (behind_field f (o.row + 1) (text (o.col + 1) ++ blank ∷ signed o.order) h.is).1

    pub no_col : ((g : Front) → FieldIs (drop row.taken l) n g → ⊥) → (o : Placed) → OrderIs n l o → ⊥
    no_col none o h =
        none _ (field_of (drop row.taken l) n (o.col + 1) (signed o.order) (omega arith) (omega (arith, h.col)) (behind_row o h))

    pub no_order : {col : Front} → FieldIs (drop row.taken l) n col
        → ((v : ℤ) → SignedIs (drop col.taken (drop row.taken l)) order_limit v → ⊥) → (o : Placed) → OrderIs n l o → ⊥
    no_order g none o h =
        none o.order
        (record { small = h.order_stands; is = (behind_field g (o.col + 1) (signed o.order) (behind_row o h)).1 })

-- a section's heading at the front of a text: the text has no first line, or that is no heading
module _ (section : Section) (s : List ℕ) where
  pub heading_missing : ((e : ℕ) → LineIs s e → ⊥) → (f : Front) → HeadingIs section s f → ⊥
  heading_missing none f h = none (length h.line) (line_of h.ended)

  pub heading_other : {e : ℕ} → LineIs s e → ((c : ℕ) → HeadingCount section (take e s) c → ⊥) → (f : Front) → HeadingIs section s f → ⊥
  heading_other g none f h =
      none f.value (subst (λ y. HeadingCount section y f.value) (line_only g h.line (drop f.taken s) h.ended) h.is)
