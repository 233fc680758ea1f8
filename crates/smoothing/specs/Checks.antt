-- "Turned away by the input": the checks 18, 20 and 1 to 7, in document 01's order, and document 02's 26 after 4.
use Rattle.std.specs.Prelude.{ℕ, ◌+◌, ◌*◌, max, Bool, cond, not, ◌||◌, List, length, ◌==◌, from_bits, nat_lt, slice_index, Float}
use Rattle.std.specs.Float.{binary64}
use Rattle.std.specs.Float.Ieee.{mul, le, lt}
use Rattle.std.specs.Float.Ieee.Scale.{finite}
use Rattle.fraction.specs.Value.{absolute_float}
use Rattle.window.specs.Cells.{+0, at}
use Rattle.request.specs.Any.{any}
use Rattle.request.specs.Parameters.{misplaced, unreliable}
use Rattle.request.specs.Points.{unfit}
use Rattle.curve.specs.Form.{axes_formed}
use Rattle.smoothing.specs.Request.{Lane, Limits, smoothed_axes, axis_count, lane_parameters, tolerance_list}
use Rattle.smoothing.specs.Rows.{Task, lane_task}

-- 18, "d, n, max_segments or max_refinements above the domain"; and that of each of the two limits
unfoldable pub wide_lane : Lane → Bool
wide_lane l = nat_lt 16 l.d || nat_lt 20000 l.n

unfoldable pub wide_limits : Limits → Bool
wide_limits m = nat_lt 20000 m.segments || nat_lt 200 m.refinements

-- 20, "point cells differ from d times n"
unfoldable pub miscounted_points : Lane → Bool
miscounted_points l = not (length l.points == l.d * l.n)

-- 2, "listed axes empty"
unfoldable pub no_axes : Lane → Bool
no_axes l = axis_count l == 0

-- 3, "an axis repeated or ≥ d"
unfoldable pub bad_axes : Lane → Bool
bad_axes l = not (axes_formed (smoothed_axes l) (axis_count l) l.d)

-- 4, "wrong count of tolerances, or one not finite and above 0": `eps.len() != axes.len() || eps.iter().any(|v| !v.is_finite() || *v <=
-- 0.)`
unfoldable pub bad_tolerance : Lane → Bool
bad_tolerance l =
    let eps = tolerance_list l in
    not (length eps == axis_count l) || any (length eps) (λ a. not (finite (at eps a)) || le (at eps a) +0)

-- Document 02, request 4: "if the largest absolute coordinate of a selected axis exceeds its tolerance times 2^48, product rounded once".
-- The largest exceeds the product where some coordinate does. A product that overflows is infinite, and exceeded by none.
abbrev pub most_of : Float → Float
most_of eps = mul binary64 eps (from_bits binary64 0x42f0_0000_0000_0000)

-- whether a coordinate of the row `axis`, of n points of d rows, exceeds `most`
unfoldable pub exceeds : List Float → ℕ → ℕ → ℕ → Float → Bool
exceeds points d n axis most = any n (λ i. lt most (absolute_float (at points (i * d + axis))))

-- whether one of the listed axes does, each with its own tolerance
unfoldable pub any_exceeds : List Float → ℕ → ℕ → List ℕ → List Float → Bool
any_exceeds points d n axes eps = any (length axes) (λ a. exceeds points d n (slice_index axes a) (most_of (at eps a)))

-- 26
abbrev pub too_fine : Lane → Bool
too_fine l = any_exceeds l.points l.d l.n (smoothed_axes l) (tolerance_list l)

-- 7, "a centred coordinate over its tolerance is not finite": `y.iter().any(|v| !v.is_finite())`
unfoldable pub overflows : Task → Bool
overflows q = any (length q.y) (λ i. not (finite (at q.y i)))

-- the first of 1 to 7 that holds, 26 "directly after 4 and before 5", and 0 where none does
unfoldable pub refusal_of : Lane → ℕ
refusal_of l =
    cond (unfit l.d l.n l.points) 1
    (cond (no_axes l) 2
    (cond (bad_axes l) 3
    (cond (bad_tolerance l) 4
    (cond (too_fine l) 26
    (cond (misplaced (lane_parameters l) l.n) 5
    (cond (unreliable (lane_parameters l) l.n) 6
    (cond (overflows (lane_task l)) 7 0)))))))

-- the lengths of the lent slices
pub record Room : Type 0 where
  pub work : ℕ
  pub breaks : ℕ
  pub coefficients : ℕ
  pub other_breaks : ℕ
  pub other_coefficients : ℕ
  pub errors : ℕ

-- 19, "a lent slice too short": "With E = max(n, max_segments) + 16, the lent room needed is: work E times (16d + 32); selected breaks
-- max_segments + 1 and coefficients 6d times max_segments; other breaks n and coefficients 6dn; errors d". Document 02, request 12: "Room
-- grows by max_segments and n cells", for the widths behind the coefficients.
unfoldable pub short_room : Room → Lane → Limits → Bool
short_room room l m =
    let e = max l.n m.segments + 16 in
    nat_lt room.work (e * (16 * l.d + 32))
    || nat_lt room.breaks (m.segments + 1) || nat_lt room.coefficients (m.segments * (6 * l.d) + m.segments)
    || nat_lt room.other_breaks l.n || nat_lt room.other_coefficients (l.n * (6 * l.d) + l.n)
    || nat_lt room.errors l.d
