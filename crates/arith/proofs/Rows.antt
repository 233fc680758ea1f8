-- Rows of d numbers, one after the other: row i lies at i * d.
use Prim.Native.Nat.{ℕ, suc, ◌+◌, ◌*◌, ◌≤◌, ◌<◌}
use native.Mathlib.Omega.{arith}
use native.Mathlib.Nat.{mul-le-mul_right, suc-mul}

-- row i of k ends within the n cells that hold them all
pub row_end : (i k d n : ℕ) → i < k → k * d ≤ n → i * d + d ≤ n
row_end i k d n h g =
    let e : suc i * d ≤ k * d = mul-le-mul_right d h in
    let s = suc-mul i d in
    omega arith

-- a row other than the first has a whole row before it
pub row_start : (i d : ℕ) → 0 < i → d ≤ i * d
row_start i d h =
    let e : 1 * d ≤ i * d = mul-le-mul_right d h in omega arith

-- row i of k starts within the n cells that hold them all
pub rows_le : (i k d n : ℕ) → i ≤ k → k * d ≤ n → i * d ≤ n
rows_le i k d n h g =
    let e : i * d ≤ k * d = mul-le-mul_right d h in omega arith
