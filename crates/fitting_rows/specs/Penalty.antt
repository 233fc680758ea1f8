-- The rows of the third derivative: the source's `fit`, "Three Gauss--Legendre nodes integrate the squared quadratic q''' basis".
use Rattle.std.specs.Prelude.{ℕ, ◌+◌, ◌-◌, ◌*◌, Bool, ◌||◌, List, [], ◌∷◌, slice_set, Float}
use Rattle.std.specs.Float.{binary64}
use Rattle.std.specs.Float.Ieee.{le, add, mul, div}
use Rattle.arith.specs.Operations.{floats}
use Rattle.arith.specs.Loop.{each}
use Rattle.window.specs.Cells.{+0, at, zeros}
use Rattle.float.specs.Power.{power_of}
use Rattle.bspline.specs.Powers.{powers_of}
use Rattle.bspline.specs.Segments.{span_width}
use Rattle.normal.specs.Add.{row_of}
use Rattle.normal.specs.declared.Row.{Row}
use Rattle.fitting_rows.specs.Arrays.{Arrays}

-- the three nodes and their weights, `5. / 18.`, `4. / 9.`, `5. / 18.`
abbrev pub third_nodes : List Float
third_nodes = floats.literal 1127016653792583 10000000000000000 ∷ floats.literal 1 2 ∷ floats.literal 8872983346207417 10000000000000000 ∷
    []

abbrev pub third_weights : List Float
third_weights =
    div binary64 (floats.literal 5 1) (floats.literal 18 1)
    ∷ div binary64 (floats.literal 4 1) (floats.literal 9 1)
    ∷ div binary64 (floats.literal 5 1) (floats.literal 18 1)
    ∷ []

-- `std::array::from_fn(|i| 6. * power[i][3])`
unfoldable pub third_of : List Float → List Float
third_of powers = each (λ i b. slice_set b i (mul binary64 (floats.literal 6 1) (at powers (6 * i + 3)))) 0 6 (zeros 6)

-- the row of node r on a span: weight `strength * h.powi(7) * w`, target 0 for up to 16 axes, as in `row_of`;
-- `let h = b.t[span + 1] - left`
unfoldable pub penalty_row_of : Arrays → Float → ℕ → ℕ → Row
penalty_row_of x strength span r =
    let h = span_width floats x.t span in
    row_of x.c x.d (span - 5) (third_of (powers_of floats x.t span (add binary64 (at x.t span)
    (mul binary64 (at third_nodes r) h))))
    (mul binary64 (mul binary64 strength (power_of floats h 7)) (at third_weights r)) (zeros 16)

-- `h <= 0. || left >= hi || b.t[span + 1] <= lo`: whether the span is left out, for the window from lo to hi
unfoldable pub left_out : List Float → Float → Float → ℕ → Bool
left_out t lo hi span = le (span_width floats t span) +0 || le hi (at t span) || le (at t (span + 1)) lo
