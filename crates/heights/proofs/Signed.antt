-- A whole number from -2,000,000 to 2,000,000 as a signed number of 32 bits: what the machine reads back from its bits is the number.
use mathlib.Core.Path.{◌≡◌, sym, ap, ◌∙◌, subst}
use mathlib.Core.Bool.{Bool, true, false, not, cond}
use Prim.Native.Nat.{ℕ, suc, ◌-◌, ◌≤◌, ◌<◌}
use native.Mathlib.Omega.{arith}
use lib.Dec.{T, ltb, ltb→lt, nltb→le}
use lib.IntN.{ℤ, pos, negsuc, ◌-ℤ◌}
use mir.Syntax.{w32}
use mir.Val.{SFits, to_z, of_z}
use mir.ValLaws.{to_z-of_z}
use Rattle.heights.specs.Lifted.{lowered}

-- a number up to 4,000,000
pub count_fits : (n : ℕ) → n ≤ 4000000 → SFits w32 (pos n)
count_fits n h = record { sfits = omega arith }

pub count_back : (n : ℕ) → n ≤ 4000000 → to_z w32 n ≡ pos n
count_back n h = to_z-of_z w32 (pos n) (count_fits n h)

-- less 2,000,000
pub lowered_fits : (n : ℕ) → n ≤ 4000000 → SFits w32 (lowered n)
lowered_fits n h = go (ltb n 2000000) (ltb→lt n 2000000) (nltb→le n 2000000)
  where
    go : (c : Bool) → (T c → n < 2000000) → (T (not c) → 2000000 ≤ n) → SFits w32 (cond c (negsuc (2000000 - suc n)) (pos (n - 2000000)))
    go true f g = record { sfits = omega arith }
    go false f g = record { sfits = omega arith }

pub difference_fits : (n : ℕ) → n ≤ 4000000 → SFits w32 (to_z w32 n -ℤ pos 2000000)
difference_fits n h = subst (λ (z : ℤ). SFits w32 (z -ℤ pos 2000000)) (sym (count_back n h)) (lowered_fits n h)

pub difference_back : (n : ℕ) → n ≤ 4000000 → to_z w32 (of_z w32 (to_z w32 n -ℤ pos 2000000)) ≡ lowered n
difference_back n h = to_z-of_z w32 (to_z w32 n -ℤ pos 2000000) (difference_fits n h) ∙ ap (λ (z : ℤ). z -ℤ pos 2000000) (count_back n h)

-- a number that is stored
pub stored_back : (n : ℕ) (z : ℤ) → n ≤ 4000000 → z ≡ lowered n → to_z w32 (of_z w32 z) ≡ lowered n
stored_back n z h e = ap (λ (x : ℤ). to_z w32 (of_z w32 x)) e ∙ to_z-of_z w32 (lowered n) (lowered_fits n h)
