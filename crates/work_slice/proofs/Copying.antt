-- Room for the coefficients.
use Prim.Native.Nat.{ℕ, ◌*◌, ◌≤◌}
use native.Mathlib.Omega.{arith}
use native.Mathlib.Nat.{mul-le-mul_right}

-- the coefficients of at most e segments of k axes
pub spans_fit : (s e k : ℕ) → s ≤ e → s * (6 * k) ≤ 6 * (e * k)
spans_fit s e k h = let g : s * k ≤ e * k = mul-le-mul_right k h in omega arith
