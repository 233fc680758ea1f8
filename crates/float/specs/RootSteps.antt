-- What the private functions of the square root promise each other, on whole numbers.
use Rattle.std.specs.Prelude.{◌≡◌, ℕ, ◌+◌, ◌*◌, ◌^◌, ◌≤◌, ◌<◌, ℤ, pos, ◌-ℤ◌}
use Rattle.std.specs.Float.{Format}
use Rattle.std.specs.Float.Ieee.{hid, to_bits}
use Rattle.fraction.specs.Magnitude.{magnitude}
use Rattle.float.specs.Root.{root_of}

-- the bits of the root of the number above 0 that has these bits
unfoldable pub root_bits : Format → ℕ → ℕ
unfolding root_of
root_bits f bits = to_bits f (root_of f (magnitude (hid f) bits))

-- the number that has these bits, in units of 2 ^ -2148, the square of the smallest number
unfoldable pub radicand : ℕ → ℕ
radicand bits = magnitude 0x10_0000_0000_0000 bits * 2 ^ 1074

-- e is the exponent of a finite number above 0, from -1074 to 1023: k - 2096
pub record Exponent (e : ℤ) : Type 0 where
  pub k : ℕ
  pub from : 1022 ≤ k
  pub upto : k ≤ 3119
  pub is : e ≡ pos k -ℤ pos 2096

-- the number that has these bits is m * 2 ^ (e - 52), m with 53 digits: m * 2 ^ k in units of 2 ^ -2148
pub record Scaling (bits m : ℕ) (e : ℤ) : Type 0 where
  pub low : 0x10_0000_0000_0000 ≤ m
  pub high : m < 0x20_0000_0000_0000
  pub exponent : Exponent e
  pub is : m * 2 ^ exponent.k ≡ radicand bits

-- q is the whole part of the root of n, and rest is what its square leaves
pub record Floor (n q rest : ℕ) : Type 0 where
  pub is : q * q + rest ≡ n
  pub less : rest ≤ 2 * q

-- k is the whole number nearest to the root of n: n lies between the squares of k - 1/2 and k + 1/2
pub record Nearest (n k : ℕ) : Type 0 where
  pub low : k * k < n + k
  pub high : n ≤ k * k + k
