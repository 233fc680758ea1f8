-- `entry::gather` meets its contract.
use mathlib.Core.Path.{◌≡◌, sym, subst, ◌∙◌}
use mathlib.Core.List.{List}
use Prim.Native.Nat.{ℕ, ◌+◌, ◌*◌, ◌≤◌, max}
use native.Mathlib.Omega.{arith}
use lib.ListN.{length, take}
use Rattle.curve.specs.Places.{padded}
use Rattle.smoothing.specs.Request.{Lane, Limits, axis_count, smoothed_axes}
use Rattle.smoothing.specs.Rows.{left_over}
use Rattle.refinement.specs.declared.plan.Plan.{Plan}
use Rattle.refinement.specs.Memory.{Roomy, cells_of, sized}
use Rattle.checks.specs.Request.{limits_of, lane_of}
use Rattle.checks.specs.Checks.{refusal_before}
use Rattle.checks.proofs.Passed.{two_waypoints, axes_count, tolerances_count, listed_long}
use Rattle.building.specs.Computed.{computed_in}
use Rattle.building.specs.Answered.{Domain, plan_of}
use Rattle.building.proofs.Passing.{work_fits, Picked, k_few, picked_below, Parted, j_is, j_sum, others_below, all_is}
use Rattle.std.specs.Prelude.{Ok}
use Rattle.std.proofs.lemmas.Result.{err_from_is_err_and}
use Rattle.building.proofs.entry.gather.Goals as goal

picked : (l : Lane) (k : ℕ) (axes : List ℕ) → refusal_before l ≡ 0 → l.d ≤ 16 → (k ≡ axis_count l) × (axes ≡ padded (smoothed_axes l))
    → Picked l k axes
picked l k axes p d h = record { passed = p; small = d; count = h.0; cells = h.1 }

parted : (l : Lane) (k : ℕ) (axes : List ℕ) (j : ℕ) (others : List ℕ) → Picked l k axes
    → (j ≡ length (left_over (take k axes) l.d)) × (others ≡ padded (left_over (take k axes) l.d))
    → Parted l k axes j others
parted l k axes j others p h = record { first = p; count = h.0; cells = h.1 }

-- the plan fits the slice, and the other axes behind it
fits : (l : Lane) (m : Limits) (points work k : ℕ) (axes : List ℕ) (j : ℕ) (others : List ℕ) (room : ℕ) → Parted l k axes j others
    → Domain l.d l.n m points work
    → room ≡ max l.n m.segments + 16
    → let p : Plan = record { axes = k; samples = l.n; room = room; count = 6 } in
    Roomy p work × (l.n + 16 ≤ room) × (cells_of p + (10 * room + 8 * (room * j)) ≤ work) × (m.segments + 16 ≤ room) × (m.refinements ≤ 200)
fits l m points work k axes j others room P D e =
    let fit = work_fits room k j l.d work (j_sum P) (rw e D.work_fits) in
    let R : Roomy (record { axes = k; samples = l.n; room = room; count = 6 }) work =
    record {
      few = k_few P.first;
      six = omega arith;
      knots_fit = omega arith;
      waypoints_fit = omega arith;
      two = two_waypoints l P.first.passed;
      small = omega (arith, D.n_most, D.segments_most);
      cells_fit = omega (arith, fit);
    } in
    (R, omega arith, omega (arith, fit), omega arith, D.refinements_most)

pub chosen-chosen-requires : goal.chosen-chosen-requires
chosen-chosen-requires c =
    let l = lane_of c.args.r.now in
    omega (arith, axes_count l c.requires.points_value, c.requires.domain.d_most)

pub tolerances_of-eps-requires : goal.tolerances_of-eps-requires
tolerances_of-eps-requires c =
    let l = lane_of c.args.r.now in
    let e = c.chosen-chosen.ensures.0 in (
      k_few (picked l c.chosen-chosen.result.count c.chosen-chosen.result.axes c.requires.points_value c.requires.domain.d_most c.chosen-chosen.ensures),
      rw e (tolerances_count l c.requires.points_value),
    )

pub compute-requires-clause-roomy : goal.compute-requires-clause-roomy
compute-requires-clause-roomy c =
    let r = c.args.r.now in
    let l = lane_of r in
    let s = c.chosen-chosen in
    let o = c.others-rest in
    let P = picked l s.result.count s.result.axes c.requires.points_value c.requires.domain.d_most s.ensures in
    let Q = parted l s.result.count s.result.axes o.result.count o.result.axes P o.ensures in
    fits l (limits_of r.limits) (length r.points.now) (length c.args.work.now) s.result.count s.result.axes o.result.count o.result.axes
    c.room_of-room.result Q c.requires.domain c.room_of-room.ensures

pub compute-requires-clause-d_bound : goal.compute-requires-clause-d_bound
compute-requires-clause-d_bound c =
    let l = lane_of c.args.r.now in
    let s = c.chosen-chosen in
    let o = c.others-rest in
    let D = c.requires.domain in
    let P = picked l s.result.count s.result.axes c.requires.points_value D.d_most s.ensures in
    let Q = parted l s.result.count s.result.axes o.result.count o.result.axes P o.ensures in (
      D.d_most,
      omega (arith, j_sum Q, D.d_most),
      D.n_most,
      omega (arith, D.points_are),
      others_below Q,
      picked_below P,
    )

pub compute-requires-clause-samples_in_bounds : goal.compute-requires-clause-samples_in_bounds
compute-requires-clause-samples_in_bounds c = listed_long (lane_of c.args.r.now) c.requires.points_value

pub returns-in_err-computed : goal.returns-in_err-computed
returns-in_err-computed c =
    let r = c.args.r.now in
    let l = lane_of r in
    let m = limits_of r.limits in
    let s = c.chosen-chosen in
    let o = c.others-rest in
    let t = c.tolerances_of-eps in
    let room = c.room_of-room in
    let P = picked l s.result.count s.result.axes c.requires.points_value c.requires.domain.d_most s.ensures in
    let Q = parted l s.result.count s.result.axes o.result.count o.result.axes P o.ensures in
    let g = err_from_is_err_and c.from_residual.result c.from_residual.ensures.1 in
    rw (g.1, g.2) (record { is = c.in_err-computed.ensures.work_after ∙ all_is Q t.result t.ensures m; places = tt })

pub returns : goal.returns
returns c =
    let r = c.args.r.now in
    let l = lane_of r in
    let m = limits_of r.limits in
    let s = c.chosen-chosen in
    let o = c.others-rest in
    let t = c.tolerances_of-eps in
    let room = c.room_of-room in
    let P = picked l s.result.count s.result.axes c.requires.points_value c.requires.domain.d_most s.ensures in
    let Q = parted l s.result.count s.result.axes o.result.count o.result.axes P o.ensures in
    let v = c.in_ok-computed in
    let w = c.compute.new.work in
    let plan : ◌≡◌ {A = Plan} (record { axes = s.result.count; samples = r.n; room = room.result; count = 6 }) (plan_of l m) =
    λ i. record { axes = P.count i; samples = r.n; room = room.ensures i; count = 6 } in
    let p = v.ensures.roomy_2 in
    record {
      is =
          (λ i. computed_in (sym plan i) (sym (j_is Q) i) (Ok v.computed) w)
          ∙ v.ensures.work_after
          ∙ all_is Q t.result t.ensures m;
      places =
          record {
            k_is = P.count;
            j_is = j_is Q;
            two = two_waypoints l c.requires.points_value;
            listed = listed_long l c.requires.points_value;
            all_axes = axes_count l c.requires.points_value;
            axes_are = P.cells;
            roomy = subst (λ (q : Plan). Roomy (sized q v.computed.count) (length w)) plan p.0;
            few = p.1;
            others_few = p.2;
          };
    }
