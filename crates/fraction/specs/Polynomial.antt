-- Polynomials by their coefficients, over any commutative ring: p 0 + p 1 * u + .. + p n * u ^ n.
use Rattle.std.specs.Prelude.{◌-◌, suc, zero, ℕ, pos}
use Rattle.fraction.specs.Binomial.{choose}
use Rattle.fraction.specs.Fraction.{Fraction, multiply_fractions, power_fraction, sum_fractions}
use Rattle.fraction.specs.Ring.{CommutativeRing}
use Rattle.fraction.specs.Sum.{power, sum}

module _ {A : Type 0} (R : CommutativeRing A) where
  -- the sum over k from 0 to n of p k * u ^ k
  abbrev pub polynomial : ℕ → (ℕ → A) → A → A
  polynomial n p u = sum R n (λ k. R.mul (p k) (power R u k))

  -- the same by Horner's rule: p 0 + u * (p 1 + u * ( .. ))
  abbrev pub horner : ℕ → (ℕ → A) → A → A
  horner zero p u = p zero
  horner (suc n) p u = R.add (p zero) (R.mul u (horner n (λ i. p (suc i)) u))

  -- the coefficient of u ^ k in the polynomial at a + w * u: the sum over j of C(j, k) * p j * a ^ (j - k) * w ^ k
  abbrev pub expanded_coefficient : ℕ → (ℕ → A) → A → A → ℕ → A
  expanded_coefficient n p a w k = sum R n (λ j. R.mul (R.of (pos (choose j k))) (R.mul (p j) (R.mul (power R a (j - k)) (power R w k))))

-- the sum over k from 0 to n of p k * u ^ k, on fractions as they are written
abbrev pub fraction_polynomial : ℕ → (ℕ → Fraction) → Fraction → Fraction
fraction_polynomial n p u = sum_fractions n (λ k. multiply_fractions (p k) (power_fraction u k))
