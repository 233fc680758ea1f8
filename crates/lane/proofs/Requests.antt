-- The request of a job: in the room of the program's buffers, its errors, and where its numbers stand.
use mathlib.Core.Path.{◌≡◌, ap, ◌∙◌, subst}
use mathlib.Core.Bool.{Bool, false}
use mathlib.Core.List.{List, ◌++◌, map}
use Prim.Native.Nat.{ℕ, ◌+◌, ◌-◌, ◌*◌, ◌≤◌, max}
use native.Mathlib.Omega.{arith}
use native.Mathlib.Nat.{mul-le-mul}
use borrow.Author.Tests.{le-ltb}
use lib.ListN.{length, take, length-map}
use lib.Seq.{take_at}
use lib.Ieee.{Float}
use Rattle.smoothing.specs.Answer.{Answer}
use Rattle.smoothing.specs.Answer.Answer.{done}
use Rattle.smoothing.specs.Request.{Request, Lane, Limits, axis_count, axes_of}
use Rattle.smoothing.specs.Checks.{Room, short_room}
use Rattle.smoothing.specs.Rows.{lane_task, lane_units, task_of}
use Rattle.smoothing.specs.Build.{Result, result_of, answer_of, build_of, build_in}
use Rattle.smoothing.proofs.Accepted.{build_accepted}
use Rattle.smoothing.proofs.Rooms.{selected_room}
use Rattle.building.specs.Outcome.{Results, results_after}
use Rattle.checks.proofs.Selected.{all_count}
use Rattle.job.specs.declared.Counts.{Counts}
use Rattle.job.specs.Job.{Job}
use Rattle.job.specs.Reading.{number_of, cells_of}
use Rattle.lane.specs.Lane.{request_of, request_in}

-- ---- the room
module _ (room : Room) (r : Request) where
  abbrev d : ℕ
  d = r.lane.d

  abbrev n : ℕ
  n = r.lane.n

  abbrev m : ℕ
  m = r.limits.segments

  pub roomy : d ≤ 2 → n ≤ 100 → m ≤ 100
      → (7424 ≤ room.work) × (101 ≤ room.breaks) × (1300 ≤ room.coefficients) × (100 ≤ room.other_breaks)
      × (1300 ≤ room.other_coefficients)
      × (2 ≤ room.errors) → build_in room r ≡ build_of r
  unfolding build_in build_of short_room
  roomy x y z w = ap (λ (b : Bool). answer_of b r) fine
    where
      fine : short_room room r.lane r.limits ≡ false
      fine =
          let e : max n m + 16 ≤ 116 = omega arith in
          let f : 16 * d + 32 ≤ 64 = omega arith in
          let g : 6 * d ≤ 12 = omega arith in
          let work : (max n m + 16) * (16 * d + 32) ≤ 116 * 64 = mul-le-mul e f in
          let selected : m * (6 * d) ≤ 100 * 12 = mul-le-mul z g in
          let other : n * (6 * d) ≤ 100 * 12 = mul-le-mul y g in
          rw (
            le-ltb room.work ((max n m + 16) * (16 * d + 32)) (omega (arith, work, w.0)),
            le-ltb room.breaks (m + 1) (omega (arith, w.1)),
            le-ltb room.coefficients (m * (6 * d) + m) (omega (arith, selected, w.2)),
            le-ltb room.other_breaks n (omega (arith, w.3)),
            le-ltb room.other_coefficients (n * (6 * d) + n) (omega (arith, other, w.4)),
            le-ltb room.errors d (omega (arith, w.5)),
          )

-- ---- the errors, one for each axis
pub error_count : (l : Lane) (m : Limits) (x : Result) → build_of (record { lane = l; limits = m }) ≡ done x
    → length x.report.errors ≡ axis_count l
unfolding lane_task task_of result_of
error_count l m x h =
    let a = build_accepted l m x h in
    subst (λ (z : Result). length z.report.errors ≡ axis_count l) a.result_is
    (selected_room m (lane_task l) (lane_units l) a.chosen a.chosen_is).errors

pub errors_stand : (c : Counts) (cells : List Float) (s s' : Results) (x : Result) → s' ≡ results_after (build_of (request_in c cells)) s
    → build_of (request_in c cells) ≡ done x → take c.d s'.errors ≡ x.report.errors
unfolding results_after axes_of
errors_stand c cells s s' x e h =
    ap (λ (z : Results). take c.d z.errors) (e ∙ ap (λ (y : Answer Result). results_after y s) h)
    ∙ take_at x.report.errors _ c.d
    (error_count (request_in c cells).lane (request_in c cells).limits x h ∙ all_count c.d)

-- ---- the numbers in the cells
pub request_stands : (j : Job) (rest : List Float) → length j.points ≡ j.counts.d * j.counts.n
    → request_in j.counts (cells_of j ++ rest) ≡ request_of j
request_stands j rest h =
    let e : 1 + j.counts.d * j.counts.n - 1 ≡ j.counts.d * j.counts.n = omega arith in
    let f = length-map j.points number_of ∙ h in
    rw (e, take_at (map number_of j.points) rest (j.counts.d * j.counts.n) f)
