-- What a read put behind the front of a buffer. Assumes nothing.
use Rattle.std.proofs.Common.{◌≡◌, ℕ, ◌+◌, ◌≤◌, List, ◌++◌, length, take, ap, ◌∙◌, sym}
use Rattle.std.proofs.Math.Seq.{take-append-add}
use Rattle.std.proofs.lemmas.List.{take-append-le}

-- The front of the buffer, and then the first of the part that was read into.
pub front_more : (at n : ℕ) (front part rest : List ℕ) → length front ≡ at → n ≤ length part → take (at + n) (front ++ (part ++ rest)) ≡ front ++ take n part
front_more at n front part rest long within =
    ap (λ k. take (k + n) (front ++ (part ++ rest))) (sym long) ∙ take-append-add front (part ++ rest) n ∙ ap (λ l. front ++ l) (take-append-le n part rest within)
