-- Where the code and the book's text part, computed. docs/DIFFERENCES.md names these inputs.
use mathlib.Core.Path.{◌≡◌, refl}
use mathlib.Core.List.{List, [], ◌∷◌, ◌++◌}
use lib.IntN.{pos, negsuc}
use lib.ListN.{replicate, set}
use lib.Ieee.{Float, binary64, nan, of_bits, add, sub, mul, div}
use Rattle.arith.specs.Operations.{floats}
use Rattle.arith.specs.Loop.{each, turns, whilst}
use Rattle.bspline.specs.Search.{pick_of, halve, partition_point, span_of}
use Rattle.bspline.specs.Values.{inner_turn, inner_loop, outer_turn, values_of}
use Rattle.bspline.specs.Segments.{span_turn, polynomial_of}
use Rattle.fraction.specs.Rational.{ℚ, wholeq, ◌+q◌, ◌*q◌, negq, inverse, at_mostq, 𝟘, 𝟙}
use Rattle.book.specs.Fractions.{fractions}
use Rattle.book.specs.Basis.{knot, basis, half_open}
use Rattle.book.proofs.Examples.{equal_lists}

-- six knots 0 and six knots 1, for six controls
abbrev ends : List ℚ
ends = replicate 6 𝟘 ++ replicate 6 𝟙

-- the book's six functions over them, with its half-open spans
abbrev book_at : ℚ → List ℚ
book_at x =
    basis (knot ends) (half_open (knot ends) x) x 5 0
    ∷ basis (knot ends) (half_open (knot ends) x) x 5 1
    ∷ basis (knot ends) (half_open (knot ends) x) x 5 2
    ∷ basis (knot ends) (half_open (knot ends) x) x 5 3
    ∷ basis (knot ends) (half_open (knot ends) x) x 5 4
    ∷ basis (knot ends) (half_open (knot ends) x) x 5 5
    ∷ []

-- The right end: by eq. 2.5 as it stands every N_{i,5}(1) is 0; the code takes 1 into the last span, as the book's FindSpan does.
right_end_book : book_at 𝟙 ≡ replicate 6 𝟘
unfolding basis half_open at_mostq ◌+q◌ ◌*q◌ negq inverse
right_end_book = equal_lists _ _ tt

right_end_code : values_of fractions ends (span_of fractions ends 6 𝟙) 𝟙 ≡ set (replicate 6 𝟘) 5 𝟙
unfolding partition_point halve pick_of whilst values_of outer_turn inner_loop inner_turn each turns at_mostq ◌+q◌ ◌*q◌ negq inverse
right_end_code = equal_lists _ _ tt

-- Outside the domain, at 2: the book's functions are 0, the code's are those of the last span, continued.
outside_book : book_at (wholeq (pos 2)) ≡ replicate 6 𝟘
unfolding basis half_open at_mostq ◌+q◌ ◌*q◌ negq inverse
outside_book = equal_lists _ _ tt

outside_code : values_of fractions ends (span_of fractions ends 6 (wholeq (pos 2))) (wholeq (pos 2))
    ≡ wholeq (negsuc 0) ∷ wholeq (pos 10) ∷ wholeq (negsuc 39) ∷ wholeq (pos 80) ∷ wholeq (negsuc 79) ∷ wholeq (pos 32) ∷ []
unfolding partition_point halve pick_of whilst values_of outer_turn inner_loop inner_turn each turns at_mostq ◌+q◌ ◌*q◌ negq inverse
outside_code = equal_lists _ _ tt

-- A last span of no width, seven knots 1, at 1: with 0/0 = 0 the six values are 0, over f64 they are NaN.
flat_end_fractions : values_of fractions (replicate 6 𝟘 ++ replicate 7 𝟙) 6 𝟙 ≡ replicate 6 𝟘
unfolding values_of outer_turn inner_loop inner_turn each turns at_mostq ◌+q◌ ◌*q◌ negq inverse
flat_end_fractions = equal_lists _ _ tt

abbrev one : Float
one = of_bits binary64 0x3ff0_0000_0000_0000

flat_end_floats : values_of floats (replicate 6 (of_bits binary64 0) ++ replicate 7 one) 6 one ≡ replicate 6 nan
unfolding of_bits add sub mul div values_of outer_turn inner_loop inner_turn each turns
flat_end_floats = refl

-- The source's breaks end with 1, wherever the last knot is.
last_break_is_one : (polynomial_of fractions (replicate 6 𝟘 ++ replicate 6 (wholeq (pos 2))) (replicate 6 𝟘) 1 6).breaks ≡ 𝟘 ∷ 𝟙 ∷ []
unfolding polynomial_of span_turn each turns at_mostq ◌+q◌ negq
last_break_is_one = equal_lists _ _ tt
