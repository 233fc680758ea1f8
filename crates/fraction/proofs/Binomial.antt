-- Laws of the binomial coefficients.
use mathlib.Core.Path.{◌≡◌, refl}
use Prim.Native.Nat.{◌*◌, ◌+◌, ◌<◌, ◌≤◌, suc, zero, ℕ}
use native.Mathlib.Nat.{le_of_suc-le-suc, le-suc, le_trans}
use native.Mathlib.Omega.{arith}
use Rattle.fraction.specs.Binomial.{choose}

-- (k + 1) * C(n + 1, k + 1) is (n + 1) * C(n, k)
pub choose_absorb : (n k : ℕ) → suc k * choose (suc n) (suc k) ≡ suc n * choose n k
choose_absorb zero zero = refl
choose_absorb zero (suc k) = zero' k
  where
    zero' : (k : ℕ) → suc (suc k) * (0 + 0) ≡ 1 * 0
    zero' k = omega arith
choose_absorb (suc n) zero = omega (arith, choose_absorb n zero)
choose_absorb (suc n) (suc k) = go (choose n k) (choose n (suc k)) (choose n (suc (suc k))) (choose_absorb n k) (choose_absorb n (suc k))
  where
    go : (a b c : ℕ) → suc k * (a + b) ≡ suc n * a → suc (suc k) * (b + c) ≡ suc n * b → suc (suc k) * ((a + b) + (b + c))
        ≡ suc (suc n) * (a + b)
    go a b c h k' = omega arith

-- C(j, k) is 0 for a k above j
pub choose_above : (j k : ℕ) → j < k → choose j k ≡ 0
choose_above j zero h = absurd (bad h)
  where
    bad : suc j ≤ 0 → ⊥
    bad x = omega arith
choose_above zero (suc k) h = refl
choose_above (suc j) (suc k) h = go (choose_above j k (le_of_suc-le-suc h))
    (choose_above j (suc k) (le_trans (le_of_suc-le-suc h) (le-suc k)))
  where
    go : choose j k ≡ 0 → choose j (suc k) ≡ 0 → choose j k + choose j (suc k) ≡ 0
    go a b = omega arith

-- C(n, k) is above 0 for a k up to n
pub choose_positive : (n k : ℕ) → k ≤ n → 0 < choose n k
choose_positive n zero h = omega arith
choose_positive zero (suc k) h = absurd (bad h)
  where
    bad : suc k ≤ 0 → ⊥
    bad x = omega arith
choose_positive (suc n) (suc k) h = go (choose_positive n k (le_of_suc-le-suc h))
  where
    go : 0 < choose n k → 0 < choose n k + choose n (suc k)
    go l = omega arith
