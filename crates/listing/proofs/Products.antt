-- The products of a case's counts are small.
use Rattle.std.proofs.Common.{ℕ, ◌*◌, ◌≤◌, mul-le-mul_right, arith}

pub product : (n d : ℕ) → n ≤ 65536 → d ≤ 16 → n * d ≤ 1048576
product n d h g =
    let e : n * d ≤ 65536 * d = mul-le-mul_right d h in omega arith
