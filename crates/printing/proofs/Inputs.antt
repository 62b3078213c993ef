-- What was read of an input tells the answer of the whole of it. Assumes nothing.
use mathlib.Core.Path.{◌≡◌, sym, ◌∙◌}
use mathlib.Core.List.{List}
use Prim.Native.Nat.{ℕ, ◌≤◌}
use native.Mathlib.Omega.{arith}
use lib.ListN.{length, take, length-take}
use lib.Seq.{take_all}
use Rattle.printing.specs.Promise.{ReadOf, InputPromise}
use Rattle.printing.proofs.Copying.{page_inside}

-- all that a buffer holds, where more was asked for
pub past : (buffer : List ℕ) (n end : ℕ) → end ≡ length buffer → length buffer ≤ n → take end buffer ≡ take n buffer
past buffer n end e h = take_all end buffer (omega arith) ∙ sym (take_all n buffer h)

-- ---- for callers
-- every buffer was read of some input: of its own first n bytes
pub own_input : (buffer : List ℕ) (n : ℕ) → ReadOf (take n buffer) buffer n
own_input buffer n =
    record { front = sym (take_all (length buffer) (take n buffer) (omega (arith, length-take n buffer))) }

-- as many bytes as are told stand in the room
pub input_inside : {buffer : List ℕ} {n : ℕ} {room room' : List ℕ} {r : ℕ} → InputPromise buffer n room room' r → r ≤ length room'
input_inside {buffer} {n} p = page_inside (p.answers (take n buffer) (own_input buffer n))
