-- The rows of sparse spans: the source's `fit`, "Sparse spans are split wherever the piecewise-linear reference changes. Six quadrature
-- rows per intersection".
use Rattle.std.specs.Prelude.{ℕ, ◌+◌, ◌-◌, ◌*◌, min, Bool, cond, ◌||◌, List, [], ◌∷◌, ◌==◌, slice_set, Float}
use Rattle.std.specs.Float.{nan, binary64}
use Rattle.std.specs.Float.Ieee.{le, add, sub, mul, div}
use Rattle.arith.specs.Operations.{floats}
use Rattle.arith.specs.Loop.{each}
use Rattle.window.specs.Cells.{at, zeros}
use Rattle.bspline.specs.Search.{partition_point, span_of}
use Rattle.bspline.specs.Values.{values_of}
use Rattle.normal.specs.Add.{row_of}
use Rattle.normal.specs.declared.Row.{Row}
use Rattle.fitting_rows.specs.Arrays.{Arrays}
use Rattle.fitting_rows.specs.Samples.{below, dense_of}
use Rattle.fitting_rows.specs.declared.pieces.Mesh.{Mesh}

-- `s.partition_point(|v| *v <= x)`
abbrev pub at_or_below : List Float → Float → ℕ
at_or_below s x = partition_point nan (λ v. le v x) s

-- `GX`, the nodes, and `GW`, their weights
abbrev pub nodes : List Float
nodes =
    floats.literal 33765242898423975 1000000000000000000
    ∷ floats.literal 16939530676686776 100000000000000000
    ∷ floats.literal 3806904069584015 10000000000000000
    ∷ floats.literal 6193095930415985 10000000000000000
    ∷ floats.literal 8306046932331322 10000000000000000
    ∷ floats.literal 966234757101576 1000000000000000
    ∷ []

abbrev pub weights : List Float
weights =
    floats.literal 8566224618958517 100000000000000000
    ∷ floats.literal 1803807865240693 10000000000000000
    ∷ floats.literal 2339569672863455 10000000000000000
    ∷ floats.literal 2339569672863455 10000000000000000
    ∷ floats.literal 1803807865240693 10000000000000000
    ∷ floats.literal 8566224618958517 100000000000000000
    ∷ []

-- the waypoint interval of x: `s.partition_point(|v| *v <= x).saturating_sub(1).min(s.len() - 2)`
unfoldable pub waypoint_interval : List Float → ℕ → Float → ℕ
waypoint_interval s n x = min (at_or_below s x - 1) (n - 2)

-- `target[axis] = y[i * b.d + axis] + f * (y[(i + 1) * b.d + axis] - y[i * b.d + axis])`
unfoldable pub line_turn : List Float → ℕ → ℕ → Float → ℕ → List Float → List Float
line_turn y d i f axis r =
    slice_set r axis (add binary64 (at y (i * d + axis)) (mul binary64 f (sub binary64 (at y ((i + 1) * d + axis)) (at y (i * d + axis)))))

-- `target` at x on interval i, with +0 up to 16 cells, for d ≤ 16, as in `row_of`; `let f = (x - s[i]) / (s[i + 1] - s[i])`
unfoldable pub line_of : List Float → List Float → ℕ → ℕ → Float → List Float
line_of s y d i x =
    each (line_turn y d i (div binary64 (sub binary64 x (at s i)) (sub binary64 (at s (i + 1)) (at s i)))) 0 d (zeros 16)

-- the row at x, with its weight
unfoldable pub row_at : Arrays → Float → Float → Row
row_at x u weight =
    let span = span_of floats x.t x.m u in
    row_of x.c x.d (span - 5) (values_of floats x.t span u) weight (line_of x.s x.y x.d (waypoint_interval x.s x.n u) u)

-- the row of node r of the piece that begins at `from` and is h wide: `let x = pair[0] + GX[r] * h`, with weight `h * GW[r]`
unfoldable pub node_row_of : Arrays → Float → Float → ℕ → Row
node_row_of x from h r = row_at x (add binary64 from (mul binary64 (at nodes r) h)) (mul binary64 h (at weights r))

-- `*populated || right <= left || left >= hi || right <= lo`: whether the span is passed over, for the window from lo to hi
unfoldable pub passed_over : List Float → List Float → Float → Float → ℕ → Bool
passed_over t s lo hi span =
    dense_of t s span || le (at t (span + 1)) (at t span) || le hi (at t span) || le (at t (span + 1)) lo

-- The `mesh` of a span: its left end, the samples from `begin` up to `end`, its right end. `let begin = s.partition_point(|v| *v <= left)`,
-- `let end = s.partition_point(|v| *v < right)`.
unfoldable pub mesh_span : Arrays → ℕ → Mesh
mesh_span x span =
    let left = at x.t span in
    let right = at x.t (span + 1) in
    record { left = left; right = right; begin = at_or_below x.s left; end = below x.s right }

-- piece j of the mesh, for j from `begin` to `end`, lies between two neighbours of it
unfoldable pub piece_start : List Float → Float → ℕ → ℕ → Float
piece_start s left begin j = cond (j == begin) left (at s (j - 1))

unfoldable pub piece_end : List Float → Float → ℕ → ℕ → Float
piece_end s right end j = cond (j == end) right (at s j)
