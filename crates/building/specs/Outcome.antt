-- What `build` answers, and what every lent slice holds afterwards.
use Rattle.std.specs.Prelude.{ℕ, cond, ◌||◌, List, eqb, length, Float}
use Rattle.window.specs.Cells.{onto, zeros}
use Rattle.curve.specs.declared.Curve.{Curve}
use Rattle.curve.specs.declared.Mode.{Mode}
use Rattle.curve.specs.Form.{with_widths, no_curve}
use Rattle.smoothing.specs.Answer as answers
use Rattle.smoothing.specs.Answer.Answer.{done, refused, exhausted}
use Rattle.smoothing.specs.Checks.{Room}
use Rattle.smoothing.specs.Build.{Result, curve_of}
use Rattle.building.specs.declared.Report.{Report}
use Rattle.checks.specs.Checks.{room_of}
use Rattle.checks.specs.Checks as checking
use Rattle.smoothing.specs.Refusal as stages
use Rattle.building.specs.declared.Answer.{Answer}
use Rattle.building.specs.declared.Answer.TheVariants.{Accepted, BadPoints, NoAxes, BadAxes, BadTolerance, BadParameters, BadRange, Overflow, InitialSegments, BadDiagonal, BadPivot, BadSolution, NotAbove, NotFinite, RefinementsUsedUp, SegmentsUsedUp, BadMidpoint, ErrorAboveTolerance, AboveDomain, ShortSlice, PointCells, ToleranceTooFine}
use Rattle.building.specs.declared.answers.Refusal.{Refusal}
use Rattle.building.specs.declared.answers.Refusal.TheVariants.{Input, Stage}

-- the number of each refusal, document 01's and document 02's; 14 with its ratio; the report of an accepted request
abbrev pub outcome_of : Answer → answers.Answer Report
outcome_of (Accepted r) = done r
outcome_of BadPoints = refused 1
outcome_of NoAxes = refused 2
outcome_of BadAxes = refused 3
outcome_of BadTolerance = refused 4
outcome_of BadParameters = refused 5
outcome_of BadRange = refused 6
outcome_of Overflow = refused 7
outcome_of InitialSegments = refused 8
outcome_of BadDiagonal = refused 9
outcome_of BadPivot = refused 10
outcome_of BadSolution = refused 11
outcome_of NotAbove = refused 12
outcome_of NotFinite = refused 13
outcome_of (RefinementsUsedUp x) = exhausted x
outcome_of SegmentsUsedUp = refused 15
outcome_of BadMidpoint = refused 16
outcome_of ErrorAboveTolerance = refused 17
outcome_of AboveDomain = refused 18
outcome_of ShortSlice = refused 19
outcome_of PointCells = refused 20
outcome_of ToleranceTooFine = refused 26

-- a refusal: its number alone, but 14 carries its ratio
abbrev pub refused_by : {A : Type 0} → Refusal → answers.Answer A
refused_by (Input e) = refused (checking.refusal_number e)
refused_by (Stage e) = stages.refused_by e

-- `SmoothingReport`, whose errors go to their slice
abbrev pub report_of : Result → Report
report_of x =
    record {
      segments = x.report.segments;
      interpolated_segments = x.report.interpolated;
      refinements = x.report.work.refinements;
      fitting_rows = x.report.work.rows;
      checked_intervals = x.report.work.intervals;
    }

-- the definition's answer, with that report
unfoldable pub reported : answers.Answer Result → answers.Answer Report
reported (done x) = done (report_of x)
reported (refused n) = refused n
reported (exhausted x) = exhausted x

unfoldable pub curve_after : Mode → ℕ → answers.Answer Result → Curve
curve_after mode d (done x) = curve_of mode d x
curve_after mode d (refused n) = no_curve mode
curve_after mode d (exhausted x) = no_curve mode

-- the five result slices
pub record Results : Type 0 where
  pub breaks : List Float
  pub coefficients : List Float
  pub other_breaks : List Float
  pub other_coefficients : List Float
  pub errors : List Float

abbrev pub results : List Float → List Float → List Float → List Float → List Float → Results
results breaks coefficients other_breaks other_coefficients errors =
    record {
      breaks = breaks;
      coefficients = coefficients;
      other_breaks = other_breaks;
      other_coefficients = other_coefficients;
      errors = errors;
    }

-- the lengths of all that is lent
abbrev pub lengths_of : List Float → Results → Room
lengths_of work s =
    room_of (length work) (length s.breaks) (length s.coefficients) (length s.other_breaks) (length s.other_coefficients)
    (length s.errors)

-- "Result slices are untouched by a refusal"
unfoldable pub results_after : answers.Answer Result → Results → Results
results_after (done x) s =
    results
    (onto x.selected.breaks s.breaks) (onto (with_widths x.selected.breaks x.selected.coefficients) s.coefficients)
    (onto x.other.breaks s.other_breaks) (onto (with_widths x.other.breaks x.other.coefficients) s.other_coefficients)
    (onto x.report.errors s.errors)
results_after (refused n) s = s
results_after (exhausted x) s = s

-- "The work slice is untouched by 18, 20, 19 and otherwise ends all +0, accepted or refused"
unfoldable pub work_after : answers.Answer Result → List Float → List Float
work_after (done x) w = zeros (length w)
work_after (refused n) w = cond (eqb n 18 || eqb n 20 || eqb n 19) w (zeros (length w))
work_after (exhausted x) w = zeros (length w)
