-- What the tests of an entry tell. Assumes nothing.
use mathlib.Core.Path.{◌≡◌, refl}
use mathlib.Core.Bool.{Bool, true, false, ◌&&◌, ◌||◌}
use Prim.Native.Nat.{ℕ, ◌+◌, ◌^◌, ◌<◌}
use native.Mathlib.Decide.{ℕ_discrete}
use native.Mathlib.Omega.{arith}
use lib.IntN.{ℤ, pos, negsuc}
use lib.Signed.{lt_z, mag, ◌<ℤ◌}
use borrow.Author.Count.{below_more}
use mir.Syntax.{Width, w16}
use mir.Val.{SFits, of_z, to_z, hbits}
use mir.Facts.{to_z-of_z}
use Rattle.theory.specs.Table.{absent, Present}
use Rattle.theory.proofs.Signed.{signed}
use Rattle.orders.specs.Tested.{Tells}

-- a test does not come out both ways
pub clash {ℓ} : {X : Type ℓ} {b : Bool} → b ≡ true → b ≡ false → X
clash p q = absurd (let z : ◌≡◌ {A = ℕ} 0 1 = cc in omega arith)

-- a statement that holds is told by `true`, one that fails by `false`
pub tells_yes : {P : Type 0} → P → Tells true P
tells_yes p = record { holds = λ e. p; fails = λ e q. clash refl e }

pub tells_no : {P : Type 0} → (P → ⊥) → Tells false P
tells_no f = record { holds = λ e. clash e refl; fails = λ e. f }

-- the bits of −32768 are those of no other number of 16 bits
pub absent_bits : (v : ℤ) → SFits w16 v → of_z w16 v ≡ 32768 → v ≡ absent
absent_bits (pos n) f e = absurd (omega (arith, f.sfits))
absent_bits (negsuc n) f e = let m : n ≡ 32767 = omega (arith, f.sfits) in rw m

pub present_bits : (v : ℤ) → (of_z w16 v ≡ 32768 → ⊥) → Present v
present_bits v ne e = ne (rw e refl)

-- −32768 is the least number of 16 bits, so an order is above it
pub present_above : (v : ℤ) → SFits w16 v → Present v → absent <ℤ v
present_above v f p = strictly (lt_z absent v) refl
  where
    strictly : (b : Bool) → lt_z absent v ≡ b → absent <ℤ v
    strictly true e = omega (arith, signed)
    strictly false e = absurd (p (omega (arith, signed)))

-- what a signed number of memory reads back as
pub back : (w : Width) (z : ℤ) → mag z < 2 ^ hbits w → to_z w (of_z w z) ≡ z
back w z h = to_z-of_z (record { sfits = h })

-- a test of everything below i and a test of i itself, both in one
pub tells_below : (P : ℕ → Type 0) (i : ℕ) (a b : Bool) → Tells a ((x : ℕ) → x < i → P x) → Tells b (P i) → Tells (a && b) ((x : ℕ) → x < i + 1 → P x)
tells_below P i true b below this =
    record { holds = λ e. below_more P i (below.holds refl) (this.holds e); fails = λ e all. this.fails e (all i (omega arith)) }
tells_below P i false b below this = tells_no (λ all. below.fails refl (λ x h. all x (omega arith)))

-- a test of something below i and a test of i itself, either in one
pub tells_some : (P : ℕ → Type 0) (i : ℕ) (a b : Bool) → Tells a ((x : ℕ) × (x < i) × P x) → Tells b (P i)
    → Tells (a || b) ((x : ℕ) × (x < i + 1) × P x)
tells_some P i true b below this = let (x, h, p) = below.holds refl in tells_yes (x, omega arith, p)
tells_some P i false b below this =
    record { holds = λ e. (i, omega arith, this.holds e); fails = λ e some. none e some.0 some.1 some.2 (ℕ_discrete some.0 i) }
  where
    none : b ≡ false → (x : ℕ) → x < i + 1 → P x → Dec (x ≡ i) → ⊥
    none e x h p (yes same) = this.fails e (rw same at p)
    none e x h p (no other) = below.fails refl (x, omega arith, p)
