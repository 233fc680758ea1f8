-- The source's `seed` ends on every request that passes the checks 1 to 7, and `seed` finds the source's anchors there: waypoint a + 1
-- always fits the corridor of the anchor a, so that `fits` of the crate `seed`, which takes that waypoint as fitting, never differs from
-- the source's test.
use Rattle.std.proofs.Common.{◌≡◌, ℕ, ◌+◌, ◌-◌, ◌*◌, ◌<◌, true, false, [], ◌∷◌, ◌++◌, length, refl, arith}
use Rattle.window.specs.Cells.{Doubles}
use Rattle.arith.specs.Loop.{whilst}
use Rattle.request.proofs.ZeroToOne.{normalised_apart}
use Rattle.seed.specs.Corridor.{lowest, highest, narrowed}
use Rattle.seed.specs.Anchors.{Scan, unscanned, anchors_of}
use Rattle.seed.proofs.FirstWaypoint.{first_fits}
use Rattle.seed.proofs.SourceScan.{source_turn, source_anchors, scan_ends}
use Rattle.smoothing.specs.Request.{Lane, axis_count, lane_parameters}
use Rattle.smoothing.specs.Checks.{refusal_of}
use Rattle.smoothing.specs.Rows.{lane_task}
use Rattle.smoothing.proofs.Passed.{lane_passed, lane_doubles, two_waypoints, parameters_length, parameter_at, y_finite}

-- the first waypoint after an anchor fits
pub seed_ends : (l : Lane) (a : ℕ) → Doubles l.parameters → refusal_of l ≡ 0 → a + 1 < l.n
    → (narrowed (lane_task l).s (lane_task l).y (axis_count l) a (a + 1) (lowest (axis_count l)) (highest (axis_count l))).ok ≡ true
seed_ends l a F h b =
    let p = lane_passed l h in
    let apart = normalised_apart (lane_parameters l) l.n (two_waypoints l h) (lane_doubles l F) p.placed p.reliable a b in
    first_fits (lane_task l).s (lane_task l).y (axis_count l) a
    (rw (parameter_at l (a + 1) b, parameter_at l a (omega arith)) apart)
    (λ j g. (y_finite l p.carried a j (omega arith) g, y_finite l p.carried (a + 1) j b g))

-- `seed` finds the source's anchors, in a loop that ends
pub lane_anchors : (l : Lane) → Doubles l.parameters → refusal_of l ≡ 0
    → let s = (lane_task l).s in let y = (lane_task l).y in let k = axis_count l in
    let start : Scan = record { anchor = 0; i = 1; lo = lowest k; hi = highest k; indices = 0 ∷ [] } in
    (anchors_of s y k ≡ (whilst (unscanned s) (source_turn s y k) (2 * length s) start).indices ++ ((length s - 1) ∷ []))
    × (unscanned s (whilst (unscanned s) (source_turn s y k) (2 * length s) start) ≡ false)
lane_anchors l F h =
    let n = parameters_length l in
    let two = two_waypoints l h in
    let first : (a : ℕ) → a + 1 < length (lane_task l).s → (narrowed (lane_task l).s (lane_task l).y (axis_count l) a (a + 1)
    (lowest (axis_count l)) (highest (axis_count l))).ok ≡ true =
    λ a b. seed_ends l a F h (omega arith) in (
      source_anchors (lane_task l).s (lane_task l).y (axis_count l) first,
      scan_ends (lane_task l).s (lane_task l).y (axis_count l) first (2 * length (lane_task l).s) _
          (record { later = omega arith; low = λ e. refl; high = λ e. refl }) (omega arith) (omega arith),
    )
