-- Document 01's "Refusal numbers": the number and the values of each case of the refusal.
use Rattle.std.specs.Prelude.{ℕ, ◌<◌, ◌≡◌, ◌⊎◌, ◌≢◌, List, [], ◌∷◌, Result, Ok, Err}
use Rattle.orders.specs.declared.Refusal.{Refusal}
use Rattle.orders.specs.declared.Refusal.TheVariants.{Size, Length, Entry, Addition, StarList, NoTransversal, NoCanon}
use Rattle.orders.specs.declared.Refusal.TheVariants.{NotGreatest, TooLong, Line, Label, Room}

-- "A refusal returns its number"
abbrev pub number_of : Refusal → ℕ
number_of Size = 1
number_of Length = 2
number_of Entry = 3
number_of Addition = 4
number_of StarList = 5
number_of NoTransversal = 6
number_of NoCanon = 7
number_of NotGreatest = 8
number_of TooLong = 9
number_of (Line k) = 10
number_of Label = 11
number_of Room = 12

-- "(10 with a line number) and no other result"
abbrev pub values_of : Refusal → List ℕ
values_of Size = []
values_of Length = []
values_of Entry = []
values_of Addition = []
values_of StarList = []
values_of NoTransversal = []
values_of NoCanon = []
values_of NotGreatest = []
values_of TooLong = []
values_of (Line k) = k ∷ []
values_of Label = []
values_of Room = []

-- ---- what an answer says
-- "A refusal returns its number (10 with a line number) and no other result": the value, or the refusal's number and values
pub data Said (X : Type 0) : Type 0 where
  gives : X → Said X
  refuses : ℕ → List ℕ → Said X

-- what a refusal says
abbrev pub refusal : {X : Type 0} → Refusal → Said X
refusal r = refuses (number_of r) (values_of r)

-- "If an answer is an enum, a definition gives this paper's number and values for each of its cases": of every answer that is a value or
-- a refusal
abbrev pub says : {X : Type 0} → Result X Refusal → Said X
says (Ok x) = gives x
says (Err r) = refusal r

-- ---- which refusal is given
-- a refusal's number, and the condition under which it is given
pub record Test : Type 1 where
  pub number : ℕ
  pub applies : Type 0

-- the number with its condition
infix 68 ◌given_when◌
abbrev pub ◌given_when◌ : ℕ → Type 0 → Test
◌given_when◌ k P = record { number = k; applies = P }

-- "each call testing those that concern it": k is the number of the first of the tests that applies. The numbers of each call's tests
-- rise, so the first that applies is "the lowest number that applies" (`first_lowest` of the proofs)
abbrev pub First : List Test → ℕ → Type 0
First [] k = ⊥
First (t ∷ ts) k = (t.applies × (k ≡ t.number)) ⊎ ((t.applies → ⊥) × First ts k)

-- none of the tests applies
abbrev pub Clear : List Test → Type 0
Clear [] = Unit
Clear (t ∷ ts) = (t.applies → ⊥) × Clear ts

-- k is the number of one of the tests that apply
abbrev pub Applies : List Test → ℕ → Type 0
Applies [] k = ⊥
Applies (t ∷ ts) k = (t.applies × (k ≡ t.number)) ⊎ Applies ts k

-- the numbers of the tests
abbrev pub numbers : List Test → List ℕ
numbers [] = []
numbers (t ∷ ts) = t.number ∷ numbers ts

-- each of the numbers is below the next
abbrev pub Rising : List ℕ → Type 0
Rising [] = Unit
Rising (j ∷ []) = Unit
Rising (j ∷ k ∷ ks) = (j < k) × Rising (k ∷ ks)

-- k is one of the numbers
abbrev pub Among : List ℕ → ℕ → Type 0
Among [] k = ⊥
Among (j ∷ js) k = (k ≡ j) ⊎ Among js k

-- ---- refusal 2, which concerns every call that is lent a slice
-- the length of a lent slice, and the wanted one
pub record Slice : Type 0 where
  pub lent : ℕ
  pub wanted : ℕ

infix 68 ◌wanted◌
abbrev pub ◌wanted◌ : ℕ → ℕ → Slice
◌wanted◌ k w = record { lent = k; wanted = w }

-- 2: "a lent slice isn't of the wanted length": one of these slices
abbrev pub WrongLength : List Slice → Type 0
WrongLength [] = ⊥
WrongLength (s ∷ ss) = (s.lent ≢ s.wanted) ⊎ WrongLength ss

-- each of them is
abbrev pub RightLengths : List Slice → Type 0
RightLengths [] = Unit
RightLengths (s ∷ ss) = (s.lent ≡ s.wanted) × RightLengths ss

-- ---- a call as a whole
-- the refusal that is due: the first of the tests that applies, which has no value beside its number
abbrev pub due : List Test → ℕ → List ℕ → Type 0
due tests k values = First tests k × (values ≡ [])

-- Demand 1 of a call, of which `Due` says when which refusal is due: m is lent at the call, and `Promise r m'` is what the call promises
-- where r is returned and m' is lent afterwards.
pub record Proper {X R M : Type 0} (Due : ℕ → List ℕ → Type 0) (says : R → Said X) (m : M) (Promise : R → M → Type 0) : Type 0 where
  -- a call has one answer only, whatever is handed to it
  pub once : (r s : R) (m' m'' : M) → Promise r m' → Promise s m'' → (r ≡ s) × (m' ≡ m'')
  -- "give the numbered refusal, and then leave each lent buffer holding what it held before"
  pub refused : (k : ℕ) (values : List ℕ) (r : R) (m' : M) → Due k values → Promise r m' → (says r ≡ refuses k values) × (m' ≡ m)
  -- and no refusal but the one that is due
  pub only_due : (k : ℕ) (values : List ℕ) (r : R) (m' : M) → Promise r m' → says r ≡ refuses k values → Due k values
