-- The whole controls of a segment: document 02, request 9, "Each segment's six Bernstein controls, computed as in `audit` over the whole
-- segment without the reference line, are multiplied by 100, rounded once, then taken to the nearest whole, halves away from zero."
use Rattle.std.specs.Prelude.{Bool, false, not, ◌||◌, List, ℕ, ◌+◌, ◌*◌, ℤ, Float}
use Rattle.std.specs.Float.{binary64}
use Rattle.std.specs.Float.Ieee.{of_bits, mul, lt}
use Rattle.std.specs.Float.Ieee.Scale.{finite}
use Rattle.arith.specs.Operations.{Arith, floats}
use Rattle.arith.specs.Loop.{each}
use Rattle.arith.specs.First.{every}
use Rattle.window.specs.Cells.{at}
use Rattle.window.specs.Rows.{list_of}
use Rattle.fraction.specs.Value.{exact_fraction, absolute_float}
use Rattle.float.specs.Power.{power_of}
use Rattle.polynomial.specs.Piece.{piece_from, curve_form}
use Rattle.polynomial.specs.Interval.{powers_at}
use Rattle.heights.specs.Height.{nearest_whole}

-- the six Bernstein controls of the segment from a to b with the powers p, over any arithmetic: its piece is the whole of it, from a to b
unfoldable pub segment_form_over : {A : Type 0} → Arith A → (A → ℕ → A) → A → A → List A → List A
segment_form_over o powi a b p =
    let q = piece_from o a b a b a b in curve_form o powi p q.u q.w

-- at f64
unfoldable pub segment_form : Float → Float → List Float → List Float
segment_form a b p = segment_form_over floats (power_of floats) a b p

-- "multiplied by 100, rounded once"
abbrev pub hundredfold : Float → Float
hundredfold x = mul binary64 x (of_bits binary64 0x4059_0000_0000_0000)

-- "not finite or beyond ±2,000,000"
unfoldable pub beyond : Float → Bool
beyond x = not (finite x) || lt (of_bits binary64 0x413e_8480_0000_0000) (absolute_float x)

-- "then taken to the nearest whole, halves away from zero", of a finite x
abbrev pub whole_of : Float → ℤ
whole_of x = nearest_whole (exact_fraction x).numerator (exact_fraction x).denominator

-- one of six controls is turned away by 28
unfoldable pub any_beyond : List Float → Bool
any_beyond b = each (λ k so_far. so_far || beyond (hundredfold (at b k))) 0 6 false

-- the six whole controls
abbrev pub wholes_of : List Float → List ℤ
wholes_of b = list_of 6 (λ k. whole_of (hundredfold (at b k)))

-- the Bernstein controls, on segment i, of the axis at a place of m axes
abbrev pub controls_in : List Float → List Float → ℕ → ℕ → ℕ → List Float
controls_in breaks coefficients m place i = segment_form (at breaks i) (at breaks (i + 1)) (powers_at coefficients (i * m) place)

-- an axis in its set: the set's breaks, its coefficients, the number of its segments and of its axes, and the axis's place among these
pub record AxisSet : Type 0 where
  pub breaks : List Float
  pub coefficients : List Float
  pub segments : ℕ
  pub axes : ℕ
  pub place : ℕ

-- the Bernstein controls of the axis on segment i
abbrev pub controls_on : AxisSet → ℕ → List Float
controls_on x i = controls_in x.breaks x.coefficients x.axes x.place i

-- no control of a segment is turned away
abbrev pub segment_fits : AxisSet → ℕ → Bool
segment_fits x i = not (any_beyond (controls_on x i))

-- and of no segment
abbrev pub all_fit : AxisSet → Bool
all_fit x = every x.segments (segment_fits x)
