-- What is computed once the checks 1 to 5 and 26 let a request through: 6 and 7, the selected axes, then the other axes, over the work slice.
use Rattle.std.specs.Prelude.{ℕ, cond, List, drop, take, Float, Result, Ok, Err}
use Rattle.bspline.specs.Segments.{Polynomial}
use Rattle.request.specs.Parameters.{unreliable}
use Rattle.smoothing.specs.Answer.{Answer, and_then}
use Rattle.smoothing.specs.Answer.Answer.{done, refused}
use Rattle.smoothing.specs.Request.{Limits}
use Rattle.smoothing.specs.Checks.{overflows}
use Rattle.smoothing.specs.Rows.{Task, Units}
use Rattle.smoothing.specs.Finish.{Selected}
use Rattle.smoothing.specs.Build.{selected_of}
use Rattle.refinement.specs.declared.plan.Plan.{Plan}
use Rattle.refinement.specs.Memory.{cells_of, memory_at, sized}
use Rattle.running_report.specs.Counted.{counts_of}
use Rattle.selected_axes.specs.declared.course.Smoothed.{Smoothed}
use Rattle.work_slice.specs.Rows.{other_in}
use Rattle.building.specs.declared.answers.Refusal.{Refusal}
use Rattle.building.specs.declared.compute.Computed.{Computed}
use Rattle.building.specs.Outcome.{refused_by}
use Rattle.selected_axes.specs.Selected.{selected_in}

-- the selected axes and the other axes
pub record Both : Type 0 where
  pub selected : Selected
  pub other : Polynomial Float

abbrev pub both : Selected → Polynomial Float → Both
both x p = record { selected = x; other = p }

-- the selected axes are there: the other axes
unfoldable pub with_other : Selected → Answer (Polynomial Float) → Answer Both
with_other x o = and_then o (λ p. done (both x p))

-- 8 to 17, then the other axes
unfoldable pub both_from : Limits → Task → Units → Answer (Polynomial Float) → Answer Both
both_from m q u o = and_then (selected_of m q u) (λ x. with_other x o)

-- with 6 and 7 before
unfoldable pub computed_of : List Float → Limits → Task → Units → Answer (Polynomial Float) → Answer Both
computed_of parameters m q u o =
    let rest = both_from m q u o in
    let checked = cond (overflows q) (refused 7) rest in
    cond (unreliable parameters q.n) (refused 6) checked

-- the selected axes that the slice holds by the plan p, once they are done
abbrev pub smoothed_at : Plan → Smoothed → List Float → Selected
smoothed_at p r w = selected_in (sized p r.count) (take p.axes r.errors) (counts_of r.report) (memory_at (sized p r.count) w)

-- and at the end
abbrev pub selected_at : Plan → Computed → List Float → Selected
selected_at p r w = selected_in (sized p r.count) (take p.axes r.errors) (counts_of r.report) (memory_at (sized p r.count) w)

-- the other axes, behind what the plan takes
abbrev pub other_at : Plan → ℕ → Computed → List Float → Polynomial Float
other_at p j r w = other_in p.samples j p.room r.other_segments (drop (cells_of p) w)

-- what the code computed: both polynomials where they lie, or its refusal
abbrev pub computed_in : Plan → ℕ → Result Computed Refusal → List Float → Answer Both
computed_in p j (Ok r) w = done (both (selected_at p r w) (other_at p j r w))
computed_in p j (Err e) w = refused_by e
