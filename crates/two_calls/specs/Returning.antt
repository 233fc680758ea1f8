-- A call of `return_lane::return_lane`, by its contract; and what its return lane is certified against: document 02, request 12.
use Rattle.std.specs.Prelude.{◌≡◌, true, List, ℕ, ◌+◌, ◌-◌, ◌*◌, ◌≤◌, ◌<◌, Float, Result}
use Rattle.std.specs.Float.{binary64}
use Rattle.std.specs.Float.Ieee.{of_bits, sub}
use Rattle.arith.specs.Operations.{floats}
use Rattle.window.specs.Cells.{at}
use Rattle.window.specs.Rows.{table}
use Rattle.curve.specs.declared.Curve.{Curve}
use Rattle.curve.specs.Form.{Slices, well_formed}
use Rattle.figure.specs.Figure.{Axis}
use Rattle.return_lane.specs.declared.Refusal.{Refusal}
use Rattle.return_lane.specs.Return.{number_of, outcome, return_of, used_by}
use Rattle.return_lane.specs.Segment.{return_coefficient}

pub record ReturnCall (c : Curve) (s lent : Slices) : Type 0 where
  pub answer : Result (Unit {0}) Refusal
  pub after : Slices
  -- the contract
  pub answered : outcome (number_of answer) after ≡ return_of c s lent
  pub formed : number_of answer ≡ 0 → well_formed c (used_by s after) ≡ true

-- "points in reverse": waypoint i of n is the i-th from the end
abbrev pub reversed_points : ℕ → ℕ → List Float → List Float
reversed_points d n points = table n d (λ i a. at points ((n - (i + 1)) * d + a))

-- What is certified of the lane driven back, y, beside the axis x of the way out: its breaks and coefficients are those of the return lane,
-- its waypoints the old ones in reverse. Its parameters are those "listed for them".
pub record DrivenBack (x y : Axis) : Type 0 where
  pub segments : y.segments ≡ x.segments
  pub break : (m : ℕ) → m ≤ x.segments → y.break m ≡ sub binary64 (of_bits binary64 0x3ff0_0000_0000_0000) (x.break (x.segments - m))
  pub coefficient : (m k : ℕ) → m < x.segments → k < 6
      → y.coefficient m k ≡ return_coefficient floats (x.coefficient (x.segments - (m + 1))) k
  pub intervals : y.intervals ≡ x.intervals
  pub waypoint : (i : ℕ) → i ≤ x.intervals → y.waypoint i ≡ x.waypoint (x.intervals - i)
