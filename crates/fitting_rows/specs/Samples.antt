-- The rows of dense spans: the source's `fit`, "Dense spans use sample rows with trapezoidal parameter-measure weights".
use Rattle.std.specs.Prelude.{ℕ, ◌+◌, ◌-◌, ◌*◌, Bool, cond, List, ◌==◌, from_bits, nat_le, slice_set, Float}
use Rattle.std.specs.Float.{nan, binary64}
use Rattle.std.specs.Float.Ieee.{lt, sub, div}
use Rattle.arith.specs.Operations.{floats}
use Rattle.arith.specs.Loop.{each}
use Rattle.window.specs.Cells.{at, zeros}
use Rattle.bspline.specs.Search.{partition_point, span_of}
use Rattle.bspline.specs.Values.{values_of}
use Rattle.normal.specs.Add.{row_of}
use Rattle.normal.specs.declared.Row.{Row}
use Rattle.fitting_rows.specs.Arrays.{Arrays}

-- `s.partition_point(|v| *v < x)`
abbrev pub below : List Float → Float → ℕ
below s x = partition_point nan (λ v. lt v x) s

-- `dense[span]`: at least 8 samples lie in the span, its right end left out
unfoldable pub dense_of : List Float → List Float → ℕ → Bool
dense_of t s span = nat_le 8 (below s (at t (span + 1)) - below s (at t span))

-- 2, as the source writes it
abbrev pub two : Float
two = from_bits binary64 0x4000_0000_0000_0000

-- `weight` of sample i of n: half of the parameters' distance from the sample before it to the one after it
unfoldable pub weight_of : List Float → ℕ → ℕ → Float
weight_of s n i =
    cond (i == 0) (div binary64 (sub binary64 (at s 1) (at s 0)) two)
    (cond (i + 1 == n) (div binary64 (sub binary64 (at s i) (at s (i - 1))) two)
    (div binary64 (sub binary64 (at s (i + 1)) (at s (i - 1))) two))

-- `&y[i * b.d..(i + 1) * b.d]`, with +0 up to 16 cells; for d ≤ 16, as in `row_of`
unfoldable pub point_of : List Float → ℕ → ℕ → List Float
point_of y d i = each (λ axis r. slice_set r axis (at y (i * d + axis))) 0 d (zeros 16)

-- the row of sample i, which lies in the span
unfoldable pub sample_row_of : Arrays → ℕ → ℕ → Row
sample_row_of x i span =
    row_of x.c x.d (span - 5) (values_of floats x.t span (at x.s i)) (weight_of x.s x.n i) (point_of x.y x.d i)

-- `b.span(s[i])`
abbrev pub sample_span : Arrays → ℕ → ℕ
sample_span x i = span_of floats x.t x.m (at x.s i)
