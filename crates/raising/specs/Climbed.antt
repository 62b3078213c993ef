-- Route 3: "From the table and a transversal of greatest sum". 002 §2: "Datos scilicet terminos transversales summa maxima gaudentes
-- asteriscis noto, et seriebus horizontalibus tales quantitates addo, ut termini earum stellati maximis in ipsorum seriebus
-- verticalibus aequentur." The starred order of row i is in column σ i.
use Rattle.std.specs.Prelude.{◌≡◌, Option, Some, None, List, ℕ, ℤ}
use Rattle.theory.specs.Lists.{nums}
use Rattle.theory.specs.Table.{entry}
use Rattle.theory.specs.Canon.{LeastFrom, Greatest}
use Rattle.orders.specs.Held.{LeastBy}

-- what the rounds from a start come to. Some additions, where they ended: the least canon from the start, and under it the stars given are
-- column maxima. None: the stars given have not the greatest sum, if there is a least canon from the start at all.
pub record Climbed (t : List ℤ) (n : ℕ) (start column_of : List ℕ) (r : Option (List ℕ)) : Type 0 where
  pub least : (l : List ℕ) → r ≡ Some l → LeastBy t n (nums start) l column_of
  pub exceeded : r ≡ None → (l : ℕ → ℕ) → LeastFrom n (entry t n) (nums start) l → Greatest n (entry t n) (nums column_of) → ⊥
