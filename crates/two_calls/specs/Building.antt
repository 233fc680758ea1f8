-- A call of `building::build`: what was handed in and lent, what came back, and the four promises of the function's contract. Two calls
-- with one lane are requests that are equal but for max_refinements, max_segments, the mode and what is lent.
use Rattle.std.specs.Prelude.{◌≡◌, ◌⊎◌, false, List, ℕ, ◌+◌, ◌*◌, ◌≤◌, ◌<◌, get_or, Float}
use Rattle.window.specs.Cells.{at, onto}
use Rattle.request.specs.declared.parameters.Spacing.TheVariants.{Listed, Chord}
use Rattle.curve.specs.declared.Curve.{Curve}
use Rattle.curve.specs.declared.Mode.{Mode}
use Rattle.smoothing.specs.Answer as answers
use Rattle.smoothing.specs.Answer.Answer.{done}
use Rattle.smoothing.specs.Request.{Lane, Limits, smoothed_axes, axis_count}
use Rattle.smoothing.specs.Checks.{short_room}
use Rattle.smoothing.specs.Build.{Result, curve_of}
use Rattle.building.specs.declared.Report.{Report}
use Rattle.building.specs.declared.Answer.{Answer}
use Rattle.building.specs.Outcome.{outcome_of, reported, report_of, Results, lengths_of, curve_after, work_after, results_after}
use Rattle.building.specs.Answered.{answer_to}

pub record BuildCall (l : Lane) (m : Limits) : Type 0 where
  pub mode : Mode
  pub work : List Float
  pub lent : Results
  -- what came back
  pub answer : Answer
  pub curve : Curve
  pub work_left : List Float
  pub lent_left : Results
  -- the contract
  pub answered : outcome_of answer ≡ reported (answer_to l m work lent)
  pub curved : curve ≡ curve_after mode l.d (answer_to l m work lent)
  pub worked : work_left ≡ work_after (answer_to l m work lent) work
  pub written : lent_left ≡ results_after (answer_to l m work lent) lent

-- its number, 0 where it is accepted; 14 is told with its ratio by the outcome
abbrev pub number_of : {l : Lane} {m : Limits} → BuildCall l m → ℕ
number_of c = answers.number_of (outcome_of c.answer)

-- every lent slice is long enough: 19 is not met
abbrev pub LongEnough : {l : Lane} {m : Limits} → BuildCall l m → Type 0
LongEnough {l} {m} c = short_room (lengths_of c.work c.lent) l m ≡ false

-- document 02, request 11: "equal but for max_refinements and max_segments, the second's nowhere lower"
pub record NowhereLower (m m' : Limits) : Type 0 where
  pub segments : m.segments ≤ m'.segments
  pub refinements : m.refinements ≤ m'.refinements

-- "8 and 15 may change where max_segments grew, and 14 where max_refinements grew"
abbrev pub MayChange : Limits → Limits → ℕ → Type 0
MayChange m m' n = (((n ≡ 8) ⊎ (n ≡ 15)) × (m.segments < m'.segments)) ⊎ ((n ≡ 14) × (m.refinements < m'.refinements))

-- ---- accepted calls
-- x is what the call gave, as the contract has it: its report, its curve, and each result slice with x's numbers in its first cells, the
-- "used cells", and what it held behind them
pub record Gave {l : Lane} {m : Limits} (c : BuildCall l m) (x : Result) : Type 0 where
  pub given : answer_to l m c.work c.lent ≡ done x
  pub outcome : outcome_of c.answer ≡ done (report_of x)
  pub curve : c.curve ≡ curve_of c.mode l.d x
  pub slices : c.lent_left ≡ results_after (done x) c.lent

-- document 02, request 10: two calls that "agree in every used cell and every count": one result is what both gave
pub record Agree {l : Lane} {m m' : Limits} (first : BuildCall l m) (second : BuildCall l m') : Type 0 where
  pub result : Result
  pub first_gave : Gave first result
  pub second_gave : Gave second result

-- "bit for bit, equal selected rows": the coordinates of the smoothed axes are those of other points
abbrev pub SelectedRowsSame : Lane → List Float → Type 0
SelectedRowsSame l points = (i a : ℕ) → i < l.n → a < axis_count l
    → at l.points (i * l.d + get_or (smoothed_axes l) a 0) ≡ at points (i * l.d + get_or (smoothed_axes l) a 0)

-- "Two .. requests with equal d, n, axes, tolerances .. and, bit for bit, equal selected rows and listed or even parameters"; a list beside
-- even parameters may be any. "Chord spacing is outside this, as it reads every row".
pub record OtherRows (l l' : Lane) : Type 0 where
  pub d : l.d ≡ l'.d
  pub n : l.n ≡ l'.n
  pub axes : l.axes ≡ l'.axes
  pub tolerance : l.tolerance ≡ l'.tolerance
  pub spacing : l.spacing ≡ l'.spacing
  pub no_chords : l.spacing ≡ Chord → ⊥
  pub listed : l.spacing ≡ Listed → l.parameters ≡ l'.parameters
  pub selected : SelectedRowsSame l l'.points

-- "the same selected segments, the same report": one report, and one list of breaks, of coefficients with the widths and of errors in the
-- first cells of both calls' slices
pub record SelectedAgree {l l' : Lane} {m m' : Limits} (first : BuildCall l m) (second : BuildCall l' m') : Type 0 where
  pub report : Report
  pub breaks : List Float
  pub coefficients : List Float
  pub errors : List Float
  pub first_report : outcome_of first.answer ≡ done report
  pub second_report : outcome_of second.answer ≡ done report
  pub first_breaks : first.lent_left.breaks ≡ onto breaks first.lent.breaks
  pub second_breaks : second.lent_left.breaks ≡ onto breaks second.lent.breaks
  pub first_coefficients : first.lent_left.coefficients ≡ onto coefficients first.lent.coefficients
  pub second_coefficients : second.lent_left.coefficients ≡ onto coefficients second.lent.coefficients
  pub first_errors : first.lent_left.errors ≡ onto errors first.lent.errors
  pub second_errors : second.lent_left.errors ≡ onto errors second.lent.errors
