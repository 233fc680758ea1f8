-- Binomial coefficients, by Pascal's rule.
use Rattle.std.specs.Prelude.{◌+◌, suc, zero, ℕ}

-- C(n, k)
abbrev pub choose : ℕ → ℕ → ℕ
choose n zero = 1
choose zero (suc k) = 0
choose (suc n) (suc k) = choose n k + choose n (suc k)
