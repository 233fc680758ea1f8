-- Bernstein polynomials, as Piegl and Tiller define them (The NURBS Book, eq. 1.8), and the Bernstein coefficients of a polynomial.
use Rattle.std.specs.Prelude.{◌-◌, suc, zero, ℕ, pos}
use Rattle.fraction.specs.Binomial.{choose}
use Rattle.fraction.specs.Rational.{◌*q◌, ◌/q◌, wholeq, ℚ}
use Rattle.fraction.specs.RationalRing.{rational_ring}
use Rattle.fraction.specs.Ring.{CommutativeRing}
use Rattle.fraction.specs.Sum.{power, sum}

module _ {A : Type 0} (R : CommutativeRing A) where
  -- 1 - u
  abbrev pub complement : A → A
  complement u = R.add (R.of (pos 1)) (R.neg u)

  -- B_{i,n}(u) = C(n, i) * u ^ i * (1 - u) ^ (n - i), eq. 1.8
  unfoldable pub bernstein : ℕ → ℕ → A → A
  bernstein n i u = R.mul (R.mul (R.of (pos (choose n i))) (power R u i)) (power R (complement u) (n - i))

  -- the sum over i from 0 to n of c i * B_{i,n}(u)
  abbrev pub bernstein_form : ℕ → (ℕ → A) → A → A
  bernstein_form n c u = sum R n (λ i. R.mul (c i) (bernstein n i u))

  -- the same by de Casteljau's corner cutting
  abbrev pub de_casteljau : ℕ → (ℕ → A) → A → A
  de_casteljau zero c u = c zero
  de_casteljau (suc n) c u = R.add (R.mul (complement u) (de_casteljau n c u)) (R.mul u (de_casteljau n (λ i. c (suc i)) u))

-- the Bernstein coefficient i, of degree n, of the polynomial with coefficients p: the sum over j of p j * C(i, j) / C(n, j)
-- (document 01: "Bernstein k = sum over j ≤ k of power j·C(k,j)/C(5,j)"; C(i, j) is 0 for a j above i)
abbrev pub bernstein_coefficient : ℕ → (ℕ → ℚ) → ℕ → ℚ
bernstein_coefficient n p i = sum rational_ring n (λ j. p j *q wholeq (pos (choose i j)) /q wholeq (pos (choose n j)))
