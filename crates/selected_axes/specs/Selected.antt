-- The selected axes in the arrays.
use Rattle.std.specs.Prelude.{ℕ, List, take, Float, Result, Ok, Err}
use Rattle.smoothing.specs.Answer.{Answer}
use Rattle.smoothing.specs.Answer.Answer.{done}
use Rattle.smoothing.specs.Refusal.{refused_by}
use Rattle.smoothing.specs.declared.refusal.Refusal.{Refusal}
use Rattle.smoothing.specs.Rows.{Units, gathered}
use Rattle.smoothing.specs.State.{Counts}
use Rattle.smoothing.specs.Finish.{Selected}
use Rattle.refinement.specs.declared.plan.Plan.{Plan}
use Rattle.refinement.specs.Memory.{Memory, memory_at, sized}
use Rattle.running_report.specs.declared.Report.{Report}
use Rattle.running_report.specs.Counted.{counts_of}
use Rattle.selected_axes.specs.declared.course.Smoothed.{Smoothed}

-- the rows `axes` of n points of d rows, as handed in, and their tolerances
abbrev pub units_of : List Float → ℕ → ℕ → List ℕ → List Float → Units
units_of points d n axes eps = record { rows = gathered points d n axes; eps = eps }

-- the stored polynomial, with these errors and counts
abbrev pub selected_in : Plan → List Float → Counts → Memory → Selected
selected_in p errors counts x =
    record { curve = record { breaks = x.breaks; coefficients = x.coefficients }; errors = errors; report = counts }

-- the definition's answer, from what the cells then hold: the finish, whose errors these are
abbrev pub finished_in : Plan → Result (List Float) Refusal → Report → List Float → Answer Selected
finished_in p (Ok errors) r w = done (selected_in p (take p.axes errors) (counts_of r) (memory_at p w))
finished_in p (Err e) r w = refused_by e

-- and all of it
abbrev pub answer_in : Plan → Result Smoothed Refusal → List Float → Answer Selected
answer_in p (Ok s) w =
    done (selected_in (sized p s.count) (take p.axes s.errors) (counts_of s.report) (memory_at (sized p s.count) w))
answer_in p (Err e) w = refused_by e
