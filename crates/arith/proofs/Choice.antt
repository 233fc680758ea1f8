-- What holds of both arms of a test.
use Prim.Native.Nat.{ℕ, ◌≤◌}
use mathlib.Core.Bool.{Bool, true, false, cond}

-- a bound that both arms keep
pub cond_le : (b : Bool) {x y k : ℕ} → x ≤ k → y ≤ k → cond b x y ≤ k
cond_le true h g = h
cond_le false h g = g
