-- Whole powers.
use Rattle.std.specs.Prelude.{cond, ℕ, zero, suc, ◌/◌, ◌%◌, eqb}
use Rattle.arith.specs.Operations.{Arith}

-- result times base to the n, by squaring, for an n of at most d binary digits: the lowest digit first
unfoldable pub power_in : {A : Type 0} → Arith A → ℕ → A → A → ℕ → A
power_in F zero result base n = result
power_in F (suc d) result base n = power_in F d (cond (eqb (n % 2) 1) (F.times result base) result) (F.times base base) (n / 2)

-- x to the n (Rust's f64::powi; document 01: "by squaring from the low bit of the exponent, starting at 1"), for an n of 32 bits
unfoldable pub power_of : {A : Type 0} → Arith A → A → ℕ → A
unfolding power_in
power_of F x n = power_in F 32 F.one x n
