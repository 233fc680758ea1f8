-- The request that the numbers and slices of a caller in C make, and what a call writes.
use Rattle.std.specs.Prelude.{ℕ, ◌+◌, ◌-◌, ◌*◌, ◌≡◌, Bool, true, cond, List, [], ◌∷◌, eqb, ltb, get_or, take, Float}
use Rattle.smoothing.specs.Answer.{Answer, number_of}
use Rattle.smoothing.specs.Answer.Answer.{done, refused, exhausted}
use Rattle.smoothing.specs.Build.{Result}
use Rattle.checks.specs.Request.{lane_with}
use Rattle.curve.specs.declared.Curve.{Curve}
use Rattle.curve.specs.declared.Mode.{Mode}
use Rattle.curve.specs.Form.{Slices, slices, well_formed}
use Rattle.building.specs.declared.Report.{Report}
use Rattle.building.specs.Outcome.{reported, Results, results_after, work_after, curve_after}
use Rattle.building.specs.Answered.{answer_to}
use Rattle.pamitoye.specs.Choices.{chosen_axes, chosen_tolerance, chosen_spacing, passed_curve}

-- the request that the numbers and slices make, answered
abbrev pub requested : ℕ → ℕ → Bool → List ℕ → Bool → Float → List Float → ℕ → List Float → List Float → ℕ → ℕ → List Float → Results
    → Answer Result
requested d n all axes uniform tolerance tolerances spacing parameters points refinements segments work s =
    answer_to
    (lane_with d n (chosen_axes all axes) (chosen_tolerance uniform tolerance tolerances) (chosen_spacing spacing) parameters points)
    (record { refinements = refinements; segments = segments }) work s

-- the report's counts
abbrev pub report_counts : Report → List ℕ
report_counts r = r.segments ∷ r.interpolated_segments ∷ r.refinements ∷ r.fitting_rows ∷ r.checked_intervals ∷ []

-- they are written where the request is accepted
abbrev pub counts_after : Answer Report → List ℕ → List ℕ
counts_after (done r) old = report_counts r
counts_after (refused n) old = old
counts_after (exhausted x) old = old

-- "number 14 carries the worst ratio of error to tolerance": it is written with 14
abbrev pub ratio_after : Answer Report → Float → Float
ratio_after (done r) old = old
ratio_after (refused n) old = old
ratio_after (exhausted x) old = x

-- the numbers of a curve that the caller does not hold already
pub record Outline : Type 0 where
  pub k : ℕ
  pub axes : List ℕ
  pub start : Float
  pub end : Float

abbrev pub outline : ℕ → List ℕ → Float → Float → Outline
outline k axes start end = record { k = k; axes = axes; start = start; end = end }

-- they are written where the answer's number is 0
abbrev pub outline_after : ℕ → Curve → Outline → Outline
outline_after number c old = cond (eqb number 0) (outline c.k c.axes c.start c.end) old

-- all that a call writes
pub record BuildOutputs : Type 0 where
  pub work : List Float
  pub results : Results
  pub counts : List ℕ
  pub ratio : Float
  pub curve : Outline

abbrev pub build_outputs : List Float → Results → List ℕ → Float → Outline → BuildOutputs
build_outputs work results counts ratio curve =
    record { work = work; results = results; counts = counts; ratio = ratio; curve = curve }

abbrev pub build_outputs_after : Mode → ℕ → Answer Result → BuildOutputs → BuildOutputs
build_outputs_after mode d z w =
    build_outputs (work_after z w.work) (results_after z w.results) (counts_after (reported z) w.counts)
    (ratio_after (reported z) w.ratio)
    (outline_after (number_of (reported z)) (curve_after mode d z) w.curve)

-- the used cells of the results: d axes, of which k are selected, n segments of these and m of the others
abbrev pub used_cells : ℕ → ℕ → ℕ → ℕ → Results → Slices
used_cells d k n m s =
    slices (take (n + 1) s.breaks) (take (6 * (n * k) + n) s.coefficients) (take (cond (ltb k d) (m + 1) 0) s.other_breaks)
    (take (6 * (m * (d - k)) + m) s.other_coefficients)

-- the curve that a call has written is well formed, in slices of exactly its used cells
abbrev pub FormedCurve : ℕ → Bool → BuildOutputs → Type 0
FormedCurve d clamp w =
    let c = w.curve in
    let n = get_or w.counts 0 0 in
    let m = get_or w.counts 1 0 in
    well_formed (passed_curve d c.k c.axes c.start c.end clamp n m) (used_cells d c.k n m w.results) ≡ true
