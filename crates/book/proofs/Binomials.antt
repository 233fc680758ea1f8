-- The source's `choose`, a quotient of factorials, is the binomial coefficient over exact fractions.
use mathlib.Core.Path.{◌≡◌, sym, ap}
use Prim.Native.Nat.{ℕ, zero, suc, ◌+◌, ◌-◌, ◌*◌, ◌≤◌, ◌<◌}
use native.Mathlib.Nat.{mul-pos}
use native.Mathlib.Omega.{arith}
use lib.Arith.{lt→nleb}
use lib.IntN.{pos}
use lib.ListN.{get_or}
use Rattle.bspline.specs.Choose.{factorials, choose_of}
use Rattle.fraction.specs.Binomial.{choose}
use Rattle.fraction.specs.Rational.{wholeq, ◌*q◌, ◌/q◌, at_mostq, Above, 𝟘, 𝟙}
use Rattle.fraction.specs.RationalRing.{rational_ring}
use Rattle.fraction.proofs.Binomial.{choose_absorb}
use Rattle.fraction.proofs.Inverse.{quotient_is}
use Rattle.book.specs.Fractions.{fractions}

-- n!
abbrev factorial : ℕ → ℕ
factorial zero = 1
factorial (suc n) = suc n * factorial n

factorial_positive : (n : ℕ) → 0 < factorial n
factorial_positive zero = omega arith
factorial_positive (suc n) = mul-pos {m = suc n} (omega arith) (factorial_positive n)

-- C(n, k) k! (n - k)! is n!
choose_factorials : (n k : ℕ) → k ≤ n → choose n k * (factorial k * factorial (n - k)) ≡ factorial n
choose_factorials n zero h = let e : n - 0 ≡ n = omega arith in rw e (omega arith)
choose_factorials zero (suc k) h = absurd (omega arith)
choose_factorials (suc n) (suc k) h =
    let e : suc n - suc k ≡ n - k = omega arith in
    rw e (go (choose (suc n) (suc k)) (choose n k) (factorial k) (factorial (n - k)) (factorial n) (choose_absorb n k)
    (choose_factorials n k (omega arith)))
  where
    go : (b c f g r : ℕ) → suc k * b ≡ suc n * c → c * (f * g) ≡ r → b * (suc k * f * g) ≡ suc n * r
    go b c f g r p q =
        let x : suc k * b * (f * g) ≡ suc n * c * (f * g) = ap (λ (z : ℕ). z * (f * g)) p in
        let y : suc n * (c * (f * g)) ≡ suc n * r = ap (λ (z : ℕ). suc n * z) q in
        omega arith

above : (n : ℕ) → 0 < n → Above (wholeq (pos n))
unfolding at_mostq
above n h = lt→nleb (n * 1 + 0) (0 * 1 + 0) (omega arith)

-- the source's table
factorial_is : (n : ℕ) → n < 6 → get_or (factorials fractions) n 𝟘 ≡ wholeq (pos (factorial n))
unfolding factorials
factorial_is n h = go n h
  where
    whole_is : (n : ℕ) → wholeq (pos n) /q 𝟙 ≡ wholeq (pos n)
    whole_is n = sym (quotient_is (wholeq (pos n)) 𝟙 (wholeq (pos n)) (above 1 (omega arith)) (rational_ring.mul_one (wholeq (pos n))))

    go : (n : ℕ) → n < 6 → get_or (factorials fractions) n 𝟘 ≡ wholeq (pos (factorial n))
    go zero h = whole_is 1
    go (suc zero) h = whole_is 1
    go (suc (suc zero)) h = whole_is 2
    go (suc (suc (suc zero))) h = whole_is 6
    go (suc (suc (suc (suc zero)))) h = whole_is 24
    go (suc (suc (suc (suc (suc zero))))) h = whole_is 120
    go (suc (suc (suc (suc (suc (suc n)))))) h = absurd (omega arith)

-- n over k, for n up to five
pub choose_is : (n k : ℕ) → n < 6 → k ≤ n → choose_of fractions n k ≡ wholeq (pos (choose n k))
unfolding choose_of
choose_is n k h l =
    let f : ℕ → ℕ = factorial in
    rw (factorial_is n h, factorial_is k (omega arith), factorial_is (n - k) (omega arith))
    (sym (quotient_is (wholeq (pos (factorial n))) (wholeq (pos (factorial k)) *q wholeq (pos (factorial (n - k))))
    (wholeq (pos (choose n k)))
    (rw (← (rational_ring.of_mul (pos (factorial k)) (pos (factorial (n - k))))) (above (factorial k * factorial (n - k))
    (mul-pos {m = factorial k} (factorial_positive k) (factorial_positive (n - k)))))
    (rw (
      ← (rational_ring.of_mul (pos (factorial k)) (pos (factorial (n - k)))),
      ← (rational_ring.of_mul (pos (choose n k))
          (pos (factorial k * factorial (n - k)))),
    ) (ap (λ (z : ℕ). wholeq (pos z)) (choose_factorials n k l)))))
