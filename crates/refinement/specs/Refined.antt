-- How refinement ends.
use Rattle.std.specs.Prelude.{ℕ, ◌≡◌, cond, List, ltb, length, Float, Result, Ok, Err}
use Rattle.smoothing.specs.Answer.{Answer}
use Rattle.smoothing.specs.Answer.Answer.{done, refused}
use Rattle.smoothing.specs.Rows.{Task}
use Rattle.smoothing.specs.State.{State}
use Rattle.smoothing.specs.Rising.{Rising}
use Rattle.smoothing.specs.Round.{spans_after, round_of}
use Rattle.refinement.specs.declared.plan.Plan.{Plan}
use Rattle.refinement.specs.Memory.{Roomy, memory_at, task_at, state_at, sized}
use Rattle.smoothing.specs.Refusal.{refused_by}
use Rattle.smoothing.specs.declared.refusal.Refusal.{Refusal}
use Rattle.running_report.specs.declared.Report.{Report}
use Rattle.running_report.specs.Counted.{counts_of}

-- a round, if 15 lets it through
abbrev pub tried : ℕ → Task → State → Answer State
tried segments q st =
    let r = round_of q st in cond (ltb segments (spans_after q st)) (refused 15) r

-- the definition's answer: the state is what the arrays then hold, with so many controls and this report
abbrev pub outcome_of : Plan → Result ℕ Refusal → Report → List Float → Answer State
outcome_of p (Ok m) r w = done (state_at (sized p m) (counts_of r) w)
outcome_of p (Err e) r w = refused_by e

-- what stands where it settled: the task, and knots that rise
abbrev pub Stands : Plan → Result ℕ Refusal → List Float → List Float → Type 0
Stands p (Ok m) w w' =
    (task_at (sized p m) w' ≡ task_at p w) × Rising (memory_at (sized p m) w').t m × Roomy (sized p m) (length w')
Stands p (Err e) w w' = Unit {0}
