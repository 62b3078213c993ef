-- What a reading tells of its buffer.
use Rattle.std.specs.Prelude.{ℕ, ◌<◌, ◌≤◌, List, length, take, Option, Result, IfOk}
use Rattle.std.specs.Io.KnownBytes.{Consumes, IsAtEnd}

-- as many bytes as are told stand in the buffer
abbrev pub Counted : {E : Type 0} → Result ℕ E → List ℕ → Type 0
Counted r buffer = IfOk r (λ n. n ≤ length buffer)

-- of an input whose bytes before and after the reading are known: as many as are told are its next ones, and stand at the front of
-- the buffer; and where they are fewer than the buffer holds, the input has ended
abbrev pub Taken : {E : Type 0} → Result ℕ E → Option (List ℕ) → Option (List ℕ) → List ℕ → Type 0
Taken r before after buffer = IfOk r (λ n. Consumes before after (take n buffer) × (n < length buffer → IsAtEnd after))
