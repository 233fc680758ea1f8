-- The parts of `round_of` that the code's loops follow.
use Rattle.std.specs.Prelude.{ℕ, ◌≡◌, cond, List, [], ◌∷◌, length, take, drop, Float}
use Rattle.window.specs.Cells.{at}
use Rattle.seed.specs.Regions.{regions_of}
use Rattle.smoothing.specs.Answer.{Answer, and_then}
use Rattle.smoothing.specs.Rows.{Task}
use Rattle.smoothing.specs.State.{State, counts}
use Rattle.smoothing.specs.Rising.{Rising}
use Rattle.smoothing.specs.Round.{selected, middle_of, locations_of, insert_all, refit_all, refitted}
use Rattle.refinement.specs.declared.plan.Plan.{Plan}
use Rattle.refinement.specs.Memory.{Memory, memory_at, sized, task_in, spline_in, task_at, state_at, locations_at}
use Rattle.refinement.specs.Kept.{Relocated}

-- the location of interval i, if it is selected
abbrev pub location_of : Plan → Memory → ℕ → List Float
location_of p x i = cond (selected p.axes x.bounds i) (middle_of (spline_in p x) (at x.witness i) ∷ []) []

-- k locations were found: they stand in the cells w', which were w, and all other arrays are as they were. The report has no part in them.
pub record Located (p : Plan) (k : ℕ) (w w' : List Float) : Type 0 where
  pub rest : Relocated (memory_at p w) (memory_at p w')
  pub are : locations_at p k w' ≡ locations_of (task_at p w) (state_at p (counts 0 0 0) w)
  pub many : k ≡ length (locations_of (task_at p w) (state_at p (counts 0 0 0) w))

-- the regions of the locations from `from` on, of which there are `count`, refitted one after the other
abbrev pub refits_from : Plan → ℕ → ℕ → Memory → State → Answer State
refits_from p count from x st = refit_all (task_in p x) (regions_of x.t p.count (drop from (take count x.locations))) st

-- `round_of` with the locations x
abbrev pub round_with : Task → List Float → State → Answer State
round_with q x st = and_then (insert_all q.k x st.b) (refitted q x st)

-- what stands after a round, where the cells were w and m controls are in w': the task, and knots that rise
pub record Standing (p : Plan) (m : ℕ) (w w' : List Float) : Type 0 where
  pub same_task : task_at (sized p m) w' ≡ task_at p w
  pub rising : Rising (memory_at (sized p m) w').t m
