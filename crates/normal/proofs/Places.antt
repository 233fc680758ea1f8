-- Counts of rows, and where an active control lies.
use mathlib.Core.Path.{◌≡◌, refl, sym}
use mathlib.Core.Bool.{Bool, true, false, ◌&&◌, true≢false}
use Prim.Native.Nat.{ℕ, ◌+◌, ◌*◌, ◌≤◌, ◌<◌}
use native.Mathlib.Omega.{arith}
use native.Mathlib.Nat.{mul-le-mul_left}
use lib.Dec.{leb, ltb}
use borrow.Author.Tests.{leb-true, ltb-true}
use Rattle.normal.specs.Add.{active}

-- k rows of at least one cell are no fewer cells than rows
pub rows_fit : (k d n : ℕ) → 0 < d → k * d ≤ n → k ≤ n
rows_fit k d n h g =
    let e : k * 1 ≤ k * d = mul-le-mul_left k h in omega arith

both : (x y : Bool) → (x && y) ≡ true → (x ≡ true) × (y ≡ true)
both true y h = (refl, h)
both false y h = absurd (true≢false (sym h))

-- an active control is none before the first
pub active_from : (a n control : ℕ) → active a n control ≡ true → a ≤ control
unfolding active
active_from a n control h = leb-true a control (both (leb a control) (ltb control (a + n)) h).0

-- and lies before the end
pub active_to : (a n control : ℕ) → active a n control ≡ true → control < a + n
unfolding active
active_to a n control h = ltb-true control (a + n) (both (leb a control) (ltb control (a + n)) h).1
