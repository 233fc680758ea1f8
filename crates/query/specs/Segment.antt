-- One axis on one segment: the source's `Polynomial::at`, step by step, in its order of roundings.
use Rattle.std.specs.Prelude.{cond, List, ℕ, ◌+◌, ◌-◌, ◌*◌, ltb, length, Float}
use Rattle.std.specs.Float.{binary64}
use Rattle.std.specs.Float.Ieee.{of_bits, add, sub, mul, div}
use Rattle.arith.specs.Operations.{floats}
use Rattle.arith.specs.Loop.{back}
use Rattle.window.specs.Window.{window}
use Rattle.window.specs.Cells.{+0, at}
use Rattle.float.specs.Power.{power_of}
use Rattle.bspline.specs.Choose.{factorials}
use Rattle.polynomial.specs.Span.{break_span}
use Rattle.curve.specs.Form.{width_of}
use Rattle.query.specs.declared.segment.Derivatives.{Derivatives}
use Rattle.query.specs.declared.segment.Local.{Local}

-- `v = v * u + p[k] * FACT[k] / FACT[k - r]`
unfoldable pub horner_turn : List Float → Float → ℕ → ℕ → Float → Float
horner_turn p u r k v =
    add binary64 (mul binary64 v u) (div binary64 (mul binary64 (at p k) (at (factorials floats) k)) (at (factorials floats) (k - r)))

-- the derivative of order r by the local parameter: k from 5 down to r
unfoldable pub horner_of : List Float → Float → ℕ → Float
horner_of p u r = back (horner_turn p u r) r 6 +0

-- `out[r] = v / h.powi(r)`, on a segment of width h
abbrev pub order_of : List Float → Float → Float → ℕ → Float
order_of p u h r = div binary64 (horner_of p u r) (power_of floats h r)

-- the four orders of the polynomial with the coefficients p at the local parameter u
unfoldable pub at_of : List Float → Float → Float → Derivatives
at_of p u h = record { value = order_of p u h 0; first = order_of p u h 1; second = order_of p u h 2; third = order_of p u h 3 }

-- `let h = breaks[span + 1] - breaks[span]`, `let u = (x - breaks[span]) / h`
abbrev pub local_on : List Float → ℕ → Float → Local
local_on breaks span x =
    let h = width_of breaks span in
    record { span = span; u = div binary64 (sub binary64 x (at breaks span)) h; width = h }

-- where x lies among the breaks; a set without segments has nothing to find
unfoldable pub located : List Float → Float → Local
located breaks x =
    cond (ltb (length breaks) 2) (record { span = 0; u = +0; width = +0 }) (local_on breaks (break_span breaks x) x)

-- the six coefficients in row i
abbrev pub six : List Float → ℕ → List Float
six coefficients i = window (6 * i) (6 * i + 6) coefficients

-- `let mut f = 1.`, then `f *= scale` from order to order
unfoldable pub scaled_of : Float → Derivatives → Derivatives
scaled_of scale v =
    let f0 = of_bits binary64 0x3ff0_0000_0000_0000 in
    let f1 = mul binary64 f0 scale in
    let f2 = mul binary64 f1 scale in
    let f3 = mul binary64 f2 scale in
    record {
      value = mul binary64 v.value f0;
      first = mul binary64 v.first f1;
      second = mul binary64 v.second f2;
      third = mul binary64 v.third f3;
    }

-- Of the axis at a place: its six coefficients, which the selected set holds where the place is below k, and the other set, of m axes,
-- otherwise
unfoldable pub coefficients_of : List Float → List Float → ℕ → ℕ → ℕ → ℕ → ℕ → List Float
coefficients_of selected other k m place span other_span =
    cond (ltb place k) (six selected (span * k + place)) (six other (other_span * m + (place - k)))

-- the axis at a place, from where the parameter lies in the selected set and in the other
unfoldable pub axis_at : List Float → List Float → ℕ → ℕ → ℕ → Local → Local → Float → Derivatives
axis_at selected other k m place here there scale =
    let p = coefficients_of selected other k m place here.span there.span in
    scaled_of scale (cond (ltb place k) (at_of p here.u here.width) (at_of p there.u there.width))
