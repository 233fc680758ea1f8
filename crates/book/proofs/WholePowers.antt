-- Whole powers by squaring are the powers, over exact fractions.
use mathlib.Core.Path.{◌≡◌, refl, sym, ap, ◌∙◌}
use mathlib.Core.Bool.{Bool, true, false, cond}
use mathlib.Core.List.{[], ◌∷◌}
use Prim.Native.Nat.{ℕ, zero, suc, ◌+◌, ◌*◌, ◌/◌, ◌%◌, ◌^◌, ◌<◌}
use native.Mathlib.Omega.{arith}
use native.Mathlib.Nat.{div-add-mod', mod-lt, zero-lt-suc}
use lib.Dec.{eqb}
use borrow.Author.Tests.{eqb-true, eqb-false}
use Rattle.float.specs.Power.{power_in, power_of}
use Rattle.fraction.specs.Rational.{ℚ, ◌*q◌, 𝟙}
use Rattle.fraction.specs.RationalRing.{rational_ring}
use Rattle.fraction.specs.Ring.{◌⊗◌, solve, v0, v1, v2}
use Rattle.fraction.specs.Sum.{power}
use Rattle.book.specs.Fractions.{fractions}
use Rattle.book.proofs.Terms.{n1}

-- the power of a square
square_power : (b : ℚ) (k : ℕ) → power rational_ring (b *q b) k ≡ power rational_ring b (k + k)
square_power b zero = refl
square_power b (suc k) =
    let e : suc k + suc k ≡ suc (suc (k + k)) = omega arith in
    rw e (ap (λ (z : ℚ). b *q b *q z) (square_power b k) ∙ solve rational_ring (b ∷ power rational_ring b (k + k) ∷ []) (v0 ⊗ v0 ⊗ v1)
    (v0 ⊗ (v0 ⊗ v1)) tt)

-- for an n of at most d binary digits
power_in_law : (d : ℕ) (r b : ℚ) (n : ℕ) → n < 2 ^ d → power_in fractions d r b n ≡ r *q power rational_ring b n
unfolding power_in
power_in_law zero r b n h = let e : n ≡ 0 = omega arith in rw e (solve rational_ring (r ∷ []) v0 (v0 ⊗ n1) tt)
power_in_law (suc d) r b n h =
    power_in_law d (cond (eqb (n % 2) 1) (r *q b) r) (b *q b) (n / 2) (omega (arith, half)) ∙ ap (λ (z : ℚ). cond (eqb (n % 2) 1) (r *q b) r *q
    z) (square_power b (n / 2)) ∙ go (eqb (n % 2) 1) refl
  where
    half : n / 2 * 2 + n % 2 ≡ n
    half = div-add-mod' n 2

    less : n % 2 < 2
    less = mod-lt n (zero-lt-suc 1)

    go : (odd : Bool) → eqb (n % 2) 1 ≡ odd → cond odd (r *q b) r *q power rational_ring b (n / 2 + n / 2) ≡ r *q power rational_ring b n
    go true e =
        let m : n ≡ suc (n / 2 + n / 2) = omega (arith, half, eqb-true (n % 2) 1 e) in
        solve rational_ring (r ∷ b ∷ power rational_ring b (n / 2 + n / 2) ∷ []) (v0 ⊗ v1 ⊗ v2) (v0 ⊗ (v1 ⊗ v2)) tt
        ∙ ap (λ (k : ℕ). r *q power rational_ring b k) (sym m)
    go false e =
        let z : n % 2 ≡ 0 = omega (arith, less, eqb-false (n % 2) 1 e) in
        let m : n ≡ n / 2 + n / 2 = omega (arith, half, z) in
        ap (λ (k : ℕ). r *q power rational_ring b k) (sym m)

-- Rust's `powi`, for exponents of 32 bits
pub power_of_is : (x : ℚ) (n : ℕ) → n < 2 ^ 32 → power_of fractions x n ≡ power rational_ring x n
unfolding power_of
power_of_is x n h = power_in_law 32 𝟙 x n h ∙ solve rational_ring (power rational_ring x n ∷ []) (n1 ⊗ v0) v0 tt
