-- The digits that `io::decimal` writes are those of the definition.
use mathlib.Core.Path.{◌≡◌, refl, sym, subst}
use mathlib.Core.Bool.{Bool, true, false}
use Prim.Native.Nat.{ℕ, zero, suc, ◌+◌, ◌-◌, ◌/◌, ◌%◌, ◌^◌, ◌≤◌, ◌<◌}
use native.Mathlib.Omega.{arith}
use native.Mathlib.Nat.{pow-zero, pow-succ', pow-le-pow_right}
use borrow.Author.Tests.{lt-ltb, le-ltb, ltb-true, ltb-false}
use lib.Dec.{ltb}
use Rattle.io.specs.Digits.{hex_digit_ascii, last_digits, IsDigitCount}
use Rattle.text.specs.Decimal.{decimal_in}

-- the digit of a number below 10
digit : (n : ℕ) → n < 10 → hex_digit_ascii n ≡ 48 + n
digit n h = rw (lt-ltb n 10 h)

pub decimal_is : (k r n : ℕ) → IsDigitCount 10 1 n r → r ≤ k → last_digits 10 r n ≡ decimal_in k n
unfolding decimal_in
decimal_is k zero n w h = absurd (omega (arith, w.0))
decimal_is zero (suc r) n w h = absurd (omega arith)
decimal_is (suc k) (suc zero) n w h =
    let p : n < 10 = omega (arith, w.1, pow-succ' 10 0, pow-zero 10) in
    let e : n % 10 ≡ n = omega arith in
    rw (e, digit n p, lt-ltb n 10 p)
decimal_is (suc k) (suc (suc r)) n w h =
    let e : suc (suc r) - 1 ≡ suc r = omega arith in
    let p : 10 ^ suc r ≤ n = subst (λ (j : ℕ). 10 ^ j ≤ n) e (w.2 (omega arith)) in
    let one : 1 ≤ 10 ^ r = positive r in
    let ten : 10 ≤ n = omega (arith, p, one, pow-succ' 10 r) in
    let f : suc r - 1 ≡ r = omega arith in
    let fewest : IsDigitCount 10 1 (n / 10) (suc r) = (
      omega arith,
      omega (arith, w.1, pow-succ' 10 (suc r)),
      λ g. subst (λ (j : ℕ). 10 ^ j ≤ n / 10) (sym f) (omega (arith, p, pow-succ' 10 r)),
    ) in
    rw (decimal_is k (suc r) (n / 10) fewest (omega arith), digit (n % 10) (omega arith), le-ltb n 10 ten)
  where
    positive : (r : ℕ) → 1 ≤ 10 ^ r
    positive zero = omega (arith, pow-zero 10)
    positive (suc r) = omega (arith, pow-succ' 10 r, positive r)

-- 64 bits have at most 20 digits
pub few_digits : (n r : ℕ) → n < 18446744073709551616 → IsDigitCount 10 1 n r → r ≤ 20
few_digits n r h w = go (ltb 20 r) refl
  where
    go : (b : Bool) → ltb 20 r ≡ b → r ≤ 20
    go false e = ltb-false 20 r e
    go true e =
        let g = ltb-true 20 r e in
        let p : 10 ^ 20 ≤ 10 ^ (r - 1) = pow-le-pow_right {n = 10} (omega arith) {i = 20} {j = r - 1} (omega arith) in
        absurd (omega (arith, p, w.2 (omega arith), h))
