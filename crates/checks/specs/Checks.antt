-- The checks of `build`, as the code makes them.
use Rattle.std.specs.Prelude.{ℕ, Bool, not, cond, ◌||◌, List, Float, Result, Ok, Err}
use Rattle.std.specs.Float.Ieee.{le}
use Rattle.std.specs.Float.Ieee.Scale.{finite}
use Rattle.window.specs.Cells.{+0}
use Rattle.request.specs.Parameters.{misplaced, unreliable}
use Rattle.request.specs.Points.{unfit}
use Rattle.smoothing.specs.Request.{Lane, Limits, lane_parameters}
use Rattle.smoothing.specs.Rows.{Task}
use Rattle.checks.specs.declared.Refusal.{Refusal}
use Rattle.checks.specs.declared.Refusal.TheVariants.{BadPoints, NoAxes, BadAxes, BadTolerance, BadParameters, BadRange, Overflow, AboveDomain, ShortSlice, PointCells, ToleranceTooFine}
use Rattle.checks.specs.declared.Room as declared
use Rattle.smoothing.specs.Checks.{wide_lane, wide_limits, miscounted_points, Room, short_room, no_axes, bad_axes, bad_tolerance, too_fine, overflows}

-- a tolerance that 4 refuses
abbrev pub bad_cell : Float → Bool
bad_cell x = not (finite x) || le x +0

-- the lengths of the lent slices
abbrev pub room_of : ℕ → ℕ → ℕ → ℕ → ℕ → ℕ → Room
room_of work breaks coefficients other_breaks other_coefficients errors =
    record {
      work = work;
      breaks = breaks;
      coefficients = coefficients;
      other_breaks = other_breaks;
      other_coefficients = other_coefficients;
      errors = errors;
    }

-- the same, as the code takes them
abbrev pub room_in : declared.Room → Room
room_in room =
    room_of room.work room.breaks room.coefficients room.other_breaks room.other_coefficients room.errors

-- the number of a refusal: document 01's, and 26 document 02's
abbrev pub refusal_number : Refusal → ℕ
refusal_number BadPoints = 1
refusal_number NoAxes = 2
refusal_number BadAxes = 3
refusal_number BadTolerance = 4
refusal_number BadParameters = 5
refusal_number BadRange = 6
refusal_number Overflow = 7
refusal_number AboveDomain = 18
refusal_number ShortSlice = 19
refusal_number PointCells = 20
refusal_number ToleranceTooFine = 26

-- the number of what a check answers: 0 where nothing is refused
abbrev pub number_of : Result (Unit {0}) Refusal → ℕ
number_of (Ok u) = 0
number_of (Err r) = refusal_number r

-- the first of 18, 20 and 19 that holds, 0 where none does
unfoldable pub refusal_first : Room → Lane → Limits → ℕ
refusal_first room l m =
    cond (wide_lane l || wide_limits m) 18 (cond (miscounted_points l) 20 (cond (short_room room l m) 19 0))

-- the first of 1 to 4, 26 and 5 that holds, 0 where none does
unfoldable pub refusal_before : Lane → ℕ
refusal_before l =
    cond (unfit l.d l.n l.points) 1
    (cond (no_axes l) 2
    (cond (bad_axes l) 3
    (cond (bad_tolerance l) 4
    (cond (too_fine l) 26
    (cond (misplaced (lane_parameters l) l.n) 5 0)))))

-- 6 and 7, which are asked where none of those holds: of the parameters and of the task
abbrev pub refusal_after : List Float → Task → ℕ
refusal_after parameters q = cond (unreliable parameters q.n) 6 (cond (overflows q) 7 0)
