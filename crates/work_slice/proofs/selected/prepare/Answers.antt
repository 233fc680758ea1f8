-- `selected::prepare` meets its contract.
use mathlib.Core.Path.{◌≡◌, refl, sym, ap, ◌∙◌}
use mathlib.Core.Bool.{Bool, not, ◌||◌}
use mathlib.Core.List.{List}
use Prim.Native.Nat.{ℕ, ◌+◌, ◌*◌, ◌≤◌}
use native.Mathlib.Omega.{arith}
use native.Mathlib.Nat.{mul-le-mul_right}
use lib.ListN.{length}
use lib.Ieee.{Float}
use lib.Ieee.Scale.{finite}
use Rattle.window.specs.Cells.{at}
use Rattle.window.specs.Window.{window, splice}
use Rattle.window.proofs.TwoParts.{Apart, both_second}
use Rattle.request.specs.Any.{any}
use Rattle.request.specs.Parameters.{parameter_list, unreliable, any_fall, length_of}
use Rattle.smoothing.specs.Rows.{Task, Units, task_of}
use Rattle.smoothing.specs.Checks.{overflows}
use Rattle.refinement.specs.declared.plan.Plan.{Plan}
use Rattle.refinement.specs.Memory.{Roomy, memory_at, task_in}
use Rattle.work_slice.specs.Rows.{s_of, task_from, units_from}
use Rattle.work_slice.proofs.Preparing.{unreliable_is, overflow_is, Put, put_count, put_read, put_range, put_stays, y_length}
use Rattle.work_slice.proofs.selected.prepare.Goals as goal

-- v is what was put as the parameters of the units u
module _ (p : Plan) (w : List Float) (R : Roomy p (length w)) (list : ℕ → List Float) (u : Units) (v : List Float)
    (put : v ≡ s_of (list (length (window 0 p.samples w))) (length (window 0 p.samples w))) where
  abbrev n : ℕ
  n = p.samples

  abbrev task : Task
  task = task_from n p.axes (list n) u

  P : Put list n w v
  P = record { fits = omega (arith, R.waypoints_fit, R.cells_fit); put = put }

  abbrev stored : List Float
  stored = window 0 n (splice 0 n v w)

  -- 6, as it was tested
  tested : (range : Float) → range ≡ length_of (list (length (window 0 n w))) (length (window 0 n w))
      → (b : Bool) → b ≡ (not (finite range) || any_fall (length stored) (at stored)) → b ≡ unreliable (list n) n
  tested range r b e = e ∙ unreliable_is (list n) n range stored (put_range P r) (put_read P)

  -- z is what was put as the rows
  module _ (z : List Float) (rows_are : z ≡ task.y) where
    written : Apart 0 n p.room (p.room + n * p.axes) v z w
    unfolding task_of
    written =
        let h : n * p.axes ≤ p.room * p.axes = mul-le-mul_right p.axes R.waypoints_fit in
        record {
          be = omega arith;
          ew = R.waypoints_fit;
          wf = omega arith;
          fl = omega (arith, h, R.cells_fit);
          first_fits = put_count P;
          second_fits = ap length rows_are ∙ y_length n p.axes (s_of (list n) n) u ∙ omega arith;
        }

    abbrev after : List Float
    after = splice p.room (p.room + n * p.axes) z (splice 0 n v w)

    y_is : window p.room (p.room + n * p.axes) after ≡ task.y
    y_is = both_second written ∙ rows_are

    -- 7, as it was tested
    judged : (b : Bool) → (let y = window p.room (p.room + n * p.axes) after in b ≡ any (length y) (λ i. not (finite (at y i))))
        → b ≡ overflows task
    judged b e = e ∙ overflow_is task _ y_is

    task_is : task_in p (memory_at p after) ≡ task
    unfolding task_of
    task_is = let s = put_stays P written in λ i. record { n = n; k = p.axes; s = s i; y = y_is i }

pub returns-then-is_unreliable-clause-value : goal.returns-then-is_unreliable-clause-value
unfolding task_of
returns-then-is_unreliable-clause-value c =
    let a = c.args in
    let r = a.r.now in
    let list = parameter_list r.spacing r.parameters.now r.points.now r.d in
    let u = units_from a.p.samples a.p.axes r.points.now r.d a.axes.now a.eps.now in
    let v = c.put_parameters-range in
    let t = tested a.p a.work.now c.requires.roomy.0 list u v.new.cells v.ensures.cells_after v.result v.ensures.value
    c.is_unreliable.result c.is_unreliable.ensures in
    rw (sym t ∙ c.if-is_unreliable.true) refl

pub returns-then-is_overflowing-clause-value : goal.returns-then-is_overflowing-clause-value
unfolding task_of
returns-then-is_overflowing-clause-value c =
    let a = c.args in
    let r = a.r.now in
    let list = parameter_list r.spacing r.parameters.now r.points.now r.d in
    let u = units_from a.p.samples a.p.axes r.points.now r.d a.axes.now a.eps.now in
    let v = c.put_parameters-range in
    let t = tested a.p a.work.now c.requires.roomy.0 list u v.new.cells v.ensures.cells_after v.result v.ensures.value
    c.is_unreliable.result c.is_unreliable.ensures in
    let j = judged a.p a.work.now c.requires.roomy.0 list u v.new.cells v.ensures.cells_after c.put_centred.new.cells
    c.put_centred.ensures c.is_overflowing.result c.is_overflowing.ensures in
    rw (sym t ∙ c.if-is_unreliable.false, sym j ∙ c.if-is_overflowing.true) refl

pub returns-clause-value : goal.returns-clause-value
unfolding task_of
returns-clause-value c =
    let a = c.args in
    let r = a.r.now in
    let list = parameter_list r.spacing r.parameters.now r.points.now r.d in
    let u = units_from a.p.samples a.p.axes r.points.now r.d a.axes.now a.eps.now in
    let v = c.put_parameters-range in
    let t = tested a.p a.work.now c.requires.roomy.0 list u v.new.cells v.ensures.cells_after v.result v.ensures.value
    c.is_unreliable.result c.is_unreliable.ensures in
    let j = judged a.p a.work.now c.requires.roomy.0 list u v.new.cells v.ensures.cells_after c.put_centred.new.cells
    c.put_centred.ensures c.is_overflowing.result c.is_overflowing.ensures in
    rw (sym t ∙ c.if-is_unreliable.false, sym j ∙ c.if-is_overflowing.false) refl

pub returns-clause-work_after : goal.returns-clause-work_after
unfolding task_of
returns-clause-work_after c =
    let a = c.args in
    let r = a.r.now in
    let list = parameter_list r.spacing r.parameters.now r.points.now r.d in
    let u = units_from a.p.samples a.p.axes r.points.now r.d a.axes.now a.eps.now in
    let v = c.put_parameters-range in
    task_is a.p a.work.now c.requires.roomy.0 list u v.new.cells v.ensures.cells_after c.put_centred.new.cells c.put_centred.ensures
