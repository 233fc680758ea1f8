-- Answers computed from the definition alone: each refusal, with what the checks after it would refuse too, so that their order shows; and
-- three figures.
use mathlib.Core.Path.{◌≡◌, refl}
use mathlib.Core.List.{List, [], ◌∷◌, ◌++◌}
use Prim.Native.Nat.{ℕ}
use lib.ListN.{replicate}
use lib.Ieee.{Float, binary64, of_bits, div, of_int, le, sub, lt, eq, mul, add, neg, is_nan, to_bits}
use Rattle.window.specs.Cells.{+0, zeros}
use Rattle.window.specs.Rows.{join}
use Rattle.float.specs.Root.{sqrt_of}
use Rattle.arith.specs.Loop.{each, turns}
use Rattle.fraction.specs.DirectedSum.{downward_sum, plain_zero, upward_sum}
use Rattle.fraction.specs.Rational.{◌+q◌, at_mostq}
use Rattle.fraction.specs.Pair.{highest, lowest, add_pairs, divide_pairs, multiply_pairs, subtract_pairs, finite_ends, outward, moved, largest_absolute}
use Rattle.fraction.specs.NextNumber.{next_down, next_up}
use Rattle.request.specs.declared.parameters.Spacing.{Spacing}
use Rattle.request.specs.declared.parameters.Spacing.TheVariants.{Listed, Even, Chord}
use Rattle.request.specs.Any.{any}
use Rattle.request.specs.Parameters.{even_of, sum_of, square_of, chord_length, parameter_list, length_of, normalised_of, misplaced, unreliable}
use Rattle.request.specs.Points.{unfit}
use Rattle.curve.specs.declared.Curve.{Curve}
use Rattle.curve.specs.declared.Mode.TheVariants.{Error}
use Rattle.arith.specs.First.{first_of}
use Rattle.curve.specs.Form.{Slices, slices, axes_formed, set_formed, widths_kept, others_formed, range_formed, well_formed}
use Rattle.figure.specs.Certify.{CertificateOutcome, certify_of, outcome}
use Rattle.figure.specs.Figure.{absolute_end, figure, figure_of, halved_figure, intersection_figure, larger, six_figure, smaller}
use Rattle.figure.specs.Halving.{level}
use Rattle.figure.specs.Intersection.{bernstein, power}

abbrev float : ℕ → Float
float = of_bits binary64

-- 1, infinity, and -1.5e308 with 1.5e308, whose difference is infinite
abbrev one : Float
one = float 0x3ff0_0000_0000_0000

abbrev infinite : Float
infinite = float 0x7ff0_0000_0000_0000

abbrev wide : List Float
wide = float 0xffea_b36d_48e1_acf0 ∷ float 0x7fea_b36d_48e1_acf0 ∷ []

-- a curve of d axes, of which axis 0 is selected; with d = 1 and one segment from 0 to 1 it is well formed
abbrev curve : ℕ → ℕ → Curve
curve d segments = record {
  d = d;
  k = 1;
  axes = replicate 16 0;
  start = +0;
  end = one;
  mode = Error;
  segments = segments;
  other_segments = 0;
}

abbrev flat : Slices
flat = slices (+0 ∷ one ∷ []) (zeros 6 ++ (one ∷ [])) [] []

-- what the answers below are computed by
unfoldable pub checks : Unit {0}
unfolding certify_of unfit any misplaced parameter_list even_of sum_of square_of chord_length
    unreliable length_of normalised_of well_formed axes_formed first_of set_formed
    widths_kept others_formed range_formed of_bits to_bits div of_int le sub lt eq join sqrt_of add mul
checks = tt

unfoldable pub figures : Unit {0}
unfolding figure_of intersection_figure halved_figure smaller larger absolute_end level six_figure each turns highest lowest bernstein power
    add_pairs divide_pairs multiply_pairs subtract_pairs finite_ends outward moved mul add next_down next_up is_nan to_bits neg largest_absolute
    downward_sum upward_sum plain_zero at_mostq ◌+q◌
figures = tt

-- document 01's number of each answer: two refusals at least are due in each row but the last three
abbrev number : Curve → List Float → ℕ → Spacing → List Float → ℕ → ℕ → ℕ
number c points n spacing parameters axis depth = (certify_of c flat points n spacing parameters axis depth).number

pub numbers : number (curve 17 0) (infinite ∷ []) 2 Listed (one ∷ one ∷ []) 1 7
    ∷ number (curve 17 0) (infinite ∷ []) 2 Listed (one ∷ one ∷ []) 1 6
    ∷ number (curve 1 0) (infinite ∷ []) 2 Listed (one ∷ one ∷ []) 1 6
    ∷ number (curve 1 0) (infinite ∷ +0 ∷ []) 2 Listed (one ∷ one ∷ []) 1 6
    ∷ number (curve 1 0) (+0 ∷ +0 ∷ []) 2 Listed (one ∷ one ∷ []) 1 6
    ∷ number (curve 1 0) (one ∷ one ∷ []) 2 Chord [] 1 6
    ∷ number (curve 1 0) (+0 ∷ +0 ∷ []) 2 Listed wide 1 6
    ∷ number (curve 1 0) (+0 ∷ +0 ∷ []) 2 Even [] 1 6
    ∷ number (curve 1 1) (+0 ∷ +0 ∷ []) 2 Even [] 1 6
    ∷ number (curve 1 1) (+0 ∷ +0 ∷ []) 2 Even [] 0 6
    ∷ number (curve 1 1) (+0 ∷ one ∷ []) 2 Chord [] 0 6
    ∷ []
    ≡ 23 ∷ 18 ∷ 20 ∷ 1 ∷ 5 ∷ 5 ∷ 6 ∷ 24 ∷ 3 ∷ 0 ∷ 0 ∷ []
unfolding checks
numbers = refl

-- the figure of the curve 1/2 against the line 0, at depth 0
pub half :
    certify_of (curve 1 1) (slices (+0 ∷ one ∷ []) (float 0x3fe0_0000_0000_0000 ∷ zeros 5 ++ (one ∷ [])) [] []) (+0 ∷ +0 ∷ []) 2 Even [] 0 0
    ≡ outcome 0 (figure (float 0x3fe0_0000_0000_0010))
unfolding checks figures
half = refl

-- Request 8: the curve 12u^4(1 - u), a bulge of height 0.983 at 0.8, against the line 0. Its Bernstein coefficients are 0, 0, 0, 0, 2.4, 0;
-- the largest of its right half is 1.2, of its left half 0.375.
abbrev bulge : ℕ → CertificateOutcome
bulge depth = certify_of (curve 1 1)
    (slices (+0 ∷ one ∷ []) (+0 ∷ +0 ∷ +0 ∷ +0 ∷ float 0x4028_0000_0000_0000 ∷ float 0xc028_0000_0000_0000 ∷ one ∷ []) [] [])
    (+0 ∷ +0 ∷ []) 2 Even [] 0 depth

pub whole_bulge : bulge 0 ≡ outcome 0 (figure (float 0x4003_3333_3333_3343))
unfolding checks figures
whole_bulge = refl

pub halved_bulge : bulge 1 ≡ outcome 0 (figure (float 0x3ff3_3333_3333_33c0))
unfolding checks figures
halved_bulge = refl
