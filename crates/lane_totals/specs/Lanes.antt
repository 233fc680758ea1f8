-- What a lane file adds to the totals: document 02, request 13, "for axis 0", "the heights at steps 0 to 255 of every segment"; "a lane
-- with 27, 24 or 28 adds to nothing but the sixth and last line".
use Rattle.std.specs.Prelude.{cond, not, List, ℕ, zero, suc, ℤ, pos, ◌+ℤ◌}
use Rattle.std.proofs.Math.Option.{Option, some, none}
use Rattle.forms.specs.Read.{Read, got, bad}
use Rattle.forms.specs.Form.{read_whole}
use Rattle.curve.specs.declared.Curve.{Curve}
use Rattle.curve.specs.Form.{Slices, well_formed}
use Rattle.lane_file.specs.File.{Contents, file_form}
use Rattle.lane_file.specs.Curves.{slices_of, curve_of, cells_of}
use Rattle.heights.specs.Controls.{AxisSet, controls_on, wholes_of, all_fit}
use Rattle.heights.specs.Height.{height_of}
use Rattle.heights.specs.Heights.{axis_set}
use Rattle.lane_totals.specs.Totals.{Totals, lower, higher, either, away, lane, merge}

-- the lowest, the highest and the sum of f 0, f 1, .. f (n - 1)
unfoldable pub lowest_of : ℕ → (ℕ → ℤ) → Option ℤ
lowest_of zero f = none
lowest_of (suc n) f = either lower (lowest_of n f) (some (f n))

unfoldable pub highest_of : ℕ → (ℕ → ℤ) → Option ℤ
highest_of zero f = none
highest_of (suc n) f = either higher (highest_of n f) (some (f n))

unfoldable pub sum_of : ℕ → (ℕ → ℤ) → ℤ
sum_of zero f = pos 0
sum_of (suc n) f = sum_of n f +ℤ f n

-- a segment with n heights
abbrev pub step_totals : ℕ → (ℕ → ℤ) → Totals
step_totals n f = record { lanes = 0; segments = 1; lowest = lowest_of n f; highest = highest_of n f; sum = sum_of n f; turned_away = 0 }

-- "steps 0 to 255" of segment i
abbrev pub segment_totals : AxisSet → ℕ → Totals
segment_totals x i = step_totals 256 (height_of (wholes_of (controls_on x i)))

-- a lane's first n segments
unfoldable pub lane_over : AxisSet → ℕ → Totals
lane_over x zero = lane
lane_over x (suc n) = merge (lane_over x n) (segment_totals x n)

-- an axis in its set: turned away by 28, or with all segments of the set
abbrev pub axis_totals : AxisSet → Totals
axis_totals x = cond (not (all_fit x)) away (lane_over x x.segments)

-- a curve: turned away by 24, or with axis 0
unfoldable pub curve_totals : Curve → Slices → Totals
curve_totals c s = cond (not (well_formed c s)) away (axis_totals (axis_set c s 0))

-- what a file reads as: turned away by 27, or with its curve
abbrev pub read_totals : Read Contents → Totals
read_totals bad = away
read_totals (got x rest) = curve_totals (curve_of x) (slices_of (cells_of x.patterns))

-- a lane file
unfoldable pub lane_totals : List ℕ → Totals
lane_totals file = read_totals (read_whole file_form file)
