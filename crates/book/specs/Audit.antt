-- The source's `audit` on one piece of a segment and one axis, over exact fractions: the same definitions that the code of crate
-- `polynomial` equals at f64.
use Rattle.std.specs.Prelude.{List}
use Rattle.float.specs.Power.{power_of}
use Rattle.fraction.specs.Rational.{ℚ, ◌+q◌, ◌-q◌, ◌*q◌, ◌/q◌}
use Rattle.polynomial.specs.Piece.{piece_from, error_form}
use Rattle.book.specs.Fractions.{fractions}

-- The line from the waypoint y₀ at s₀ to y₁ at s₁: "the line y_i + ((t - s_i)/(s_(i+1) - s_i))·(y_(i+1) - y_i)" (document 01).
abbrev pub line_at : ℚ → ℚ → ℚ → ℚ → ℚ → ℚ
line_at s₀ s₁ y₀ y₁ x = y₀ +q (x -q s₀) /q (s₁ -q s₀) *q (y₁ -q y₀)

-- The six Bernstein coefficients of curve minus line on the piece from left to right of the segment from a to b, with the coefficients
-- p, as the source's `audit` makes them.
abbrev pub piece_errors : List ℚ → ℚ → ℚ → ℚ → ℚ → ℚ → ℚ → ℚ → ℚ → List ℚ
piece_errors p a b s₀ s₁ y₀ y₁ left right =
    error_form fractions (power_of fractions) p y₀ y₁ (piece_from fractions a b s₀ s₁ left right)
