-- Worked examples, by computation: what document 02's request 9 asks at the edges.
use mathlib.Core.Path.{◌≡◌, refl}
use mathlib.Core.Bool.{true, false}
use mathlib.Core.List.{[], ◌∷◌, map}
use Prim.Native.Nat.{◌*◌, ◌^◌}
use lib.IntN.{pos, negsuc}
use lib.Ieee.{Float, add, binary64, climb, div, fin, inf, lt, mul, nan, odd, of_bits, of_fields, round, size, span, sub, sum, units}
use Rattle.arith.specs.Loop.{each, turns}
use Rattle.bspline.specs.Choose.{choose_of, factorials}
use Rattle.float.specs.Power.{power_in, power_of}
use Rattle.polynomial.specs.Piece.{add_share, add_term, bernstein_coefficients, bernstein_of, curve_form, piece_from, piece_power, piece_powers}
use Rattle.heights.specs.Controls.{beyond, hundredfold, segment_form, segment_form_over, whole_of}
use Rattle.heights.specs.Height.{height_of, nearest_whole, weighted}
use Rattle.heights.specs.Weights.{weight_of}

-- "nearest whole, halves away from zero": -5/2, -3/2, -1/2, -1/4, 1/4, 1/2, 3/2, 5/2
halves : nearest_whole (negsuc 4) 2 ∷ nearest_whole (negsuc 2) 2 ∷ nearest_whole (negsuc 0) 2 ∷ nearest_whole (negsuc 0) 4
    ∷ nearest_whole (pos 1) 4 ∷ nearest_whole (pos 1) 2 ∷ nearest_whole (pos 3) 2 ∷ nearest_whole (pos 5) 2 ∷ []
    ≡ negsuc 2 ∷ negsuc 1 ∷ negsuc 0 ∷ pos 0 ∷ pos 0 ∷ pos 1 ∷ pos 2 ∷ pos 3 ∷ []
halves = refl

-- what the controls of a segment are computed by
unfoldable pub steps : Unit {0}
unfolding segment_form segment_form_over piece_from curve_form piece_powers piece_power add_term bernstein_coefficients bernstein_of add_share
    choose_of power_of power_in factorials each turns add sub mul div sum of_bits of_fields round size span climb units odd
steps = tt

abbrev zero : Float
zero = of_bits binary64 0

-- a straight line over the segment from 0.25 to 0.75: 0, 0.2, 0.4, 0.6, 0.8, 1
straight : segment_form (of_bits binary64 0x3fd0_0000_0000_0000) (of_bits binary64 0x3fe8_0000_0000_0000)
    (zero ∷ of_bits binary64 0x3ff0_0000_0000_0000 ∷ zero ∷ zero ∷ zero ∷ zero ∷ [])
    ≡ zero ∷ of_bits binary64 0x3fc9_9999_9999_999a ∷ of_bits binary64 0x3fd9_9999_9999_999a ∷ of_bits binary64 0x3fe3_3333_3333_3333
    ∷ of_bits binary64 0x3fe9_9999_9999_999a ∷ of_bits binary64 0x3ff0_0000_0000_0000 ∷ []
unfolding steps
straight = refl

-- an infinite coefficient: its terms with the power of u = 0 are NaNs, and so is every control
infinite : segment_form zero (of_bits binary64 0x3ff0_0000_0000_0000) (zero ∷ zero ∷ zero ∷ zero ∷ zero ∷ inf false ∷ [])
    ≡ nan ∷ nan ∷ nan ∷ nan ∷ nan ∷ nan ∷ []
unfolding steps
infinite = refl

-- "multiplied by 100, rounded once": -0.005, -0, 0.005 (then a half), 1.005 (then just below a half), -20000, 20000
controls : map (λ x. whole_of (hundredfold x)) (
    of_bits binary64 0xbf74_7ae1_47ae_147b ∷ fin true 0 (pos 0) ∷ of_bits binary64 0x3f74_7ae1_47ae_147b
    ∷ of_bits binary64 0x3ff0_147a_e147_ae14 ∷ of_bits binary64 0xc0d3_8800_0000_0000 ∷ of_bits binary64 0x40d3_8800_0000_0000 ∷ [])
    ≡ negsuc 0 ∷ pos 0 ∷ pos 1 ∷ pos 100 ∷ negsuc 1999999 ∷ pos 2000000 ∷ []
unfolding mul of_bits of_fields round size span climb units odd
controls = refl

-- 28: 20000 is allowed, and -20000; the next numbers are not, nor are 1e308, an infinity and a NaN
limits : map (λ x. beyond (hundredfold x)) (
    of_bits binary64 0x40d3_8800_0000_0000 ∷ of_bits binary64 0xc0d3_8800_0000_0000 ∷ of_bits binary64 0x40d3_8800_0000_0001
    ∷ of_bits binary64 0xc0d3_8800_0000_0001 ∷ of_bits binary64 0x7fe1_ccf3_85eb_c8a0 ∷ inf true ∷ nan ∷ [])
    ≡ false ∷ false ∷ true ∷ true ∷ true ∷ true ∷ true ∷ []
unfolding beyond lt mul of_bits of_fields round size span climb units odd
limits = refl

-- the ends of the table, and its middle
weights : weight_of 0 0 ∷ weight_of 0 1 ∷ weight_of 128 2 ∷ weight_of 256 4 ∷ weight_of 256 5 ∷ []
    ≡ 2 ^ 40 ∷ 0 ∷ 10 * 2 ^ 35 ∷ 0 ∷ 2 ^ 40 ∷ []
weights = refl

-- heights at step 128: control 5 weighs 1/32 there, so that 16 gives a half
halfway : map (λ z. height_of (pos 0 ∷ pos 0 ∷ pos 0 ∷ pos 0 ∷ pos 0 ∷ z ∷ []) 128) (negsuc 15 ∷ negsuc 14 ∷ pos 15 ∷ pos 16 ∷ pos 48 ∷ [])
    ≡ negsuc 0 ∷ pos 0 ∷ pos 0 ∷ pos 1 ∷ pos 2 ∷ []
unfolding weighted
halfway = refl
