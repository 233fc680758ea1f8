-- "Each height is within half a hundredth of the exact polynomial of the whole controls": the polynomial in Bernstein form with these
-- controls, in hundredths, at j / 256, over exact fractions.
use Rattle.std.specs.Prelude.{List, ℕ, ℤ, pos, get_or}
use Rattle.fraction.specs.Bernstein.{bernstein_form}
use Rattle.fraction.specs.Rational.{ℚ, wholeq, absolute, ◌-q◌, ◌/q◌, ◌≤q◌}
use Rattle.fraction.specs.RationalRing.{rational_ring}

abbrev pub exact_height : List ℤ → ℕ → ℚ
exact_height c j = bernstein_form rational_ring 5 (λ k. wholeq (get_or c k (pos 0))) (wholeq (pos j) /q wholeq (pos 256))

-- h is within half of it
abbrev pub WithinHalf : List ℤ → ℕ → ℤ → Type 0
WithinHalf c j h = absolute (wholeq h -q exact_height c j) ≤q wholeq (pos 1) /q wholeq (pos 2)
