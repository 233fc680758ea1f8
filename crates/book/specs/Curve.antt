-- The B-spline curve of degree 5 (Piegl and Tiller, section 3.2, eq. 3.1), one axis at a time, and the value of a piecewise polynomial.
use Rattle.std.specs.Prelude.{List, ℕ, ◌+◌, ◌-◌, ◌*◌, get_or}
use Rattle.bspline.specs.Segments.{Polynomial}
use Rattle.fraction.specs.Polynomial.{polynomial}
use Rattle.fraction.specs.Rational.{ℚ, ◌-q◌, ◌*q◌, ◌/q◌, 𝟘}
use Rattle.fraction.specs.RationalRing.{rational_ring}
use Rattle.fraction.specs.Sum.{sum}
use Rattle.book.specs.Basis.{basis}

-- C(u): the sum of N_{i,5}(u) P_i over the m controls P_0 to P_(m-1) (eq. 3.1)
abbrev pub curve : (ℕ → ℚ) → (ℕ → ℚ) → ℕ → (ℕ → ℚ) → ℚ → ℚ
curve t first m c u = sum rational_ring (m - 1) (λ i. basis t first u 5 i *q c i)

-- the controls of one axis: control i of d axes lies at i * d
abbrev pub axis_control : List ℚ → ℕ → ℕ → ℕ → ℚ
axis_control c d axis i = get_or c (i * d + axis) 𝟘

-- break ℓ, where segment ℓ starts
abbrev pub break_of : Polynomial ℚ → ℕ → ℚ
break_of p ℓ = get_or p.breaks ℓ 𝟘

-- Segment ℓ of an axis at x, from the break a to the break b: "the sum over k from 0 to 5 of that segment's p_k·((t - a)/(b - a))^k"
-- (document 01).
abbrev pub segment_value : Polynomial ℚ → ℕ → ℕ → ℕ → ℚ → ℚ
segment_value p d axis ℓ x =
    polynomial rational_ring 5 (λ k. get_or p.coefficients ((ℓ * d + axis) * 6 + k) 𝟘)
    ((x -q break_of p ℓ) /q (break_of p (ℓ + 1) -q break_of p ℓ))
