-- The waypoints left, from the system as it is, give what all give.
use Rattle.std.proofs.Common.{◌≡◌}
use Rattle.arith.specs.Loop.{each}
use Rattle.fitting_rows.specs.Arrays.{arrays_at}
use Rattle.smoothing.specs.Interpolate.{waypoint_turn}
use Rattle.interpolation.specs.Memory.{system_in}
use Rattle.interpolation.proofs.assembly.add_waypoints.Given as goal

abbrev pub invariant-loop-i : goal.invariant-loop-i
invariant-loop-i l =
    let x = arrays_at l.q l.fn.work in
    record {
      arrays_same : arrays_at l.q l.work ≡ x;
      left : each (waypoint_turn l.n l.q.axes x.s x.y) l.i l.n (system_in l.q l.work)
          ≡ each (waypoint_turn l.n l.q.axes x.s x.y) 0 l.n (system_in l.q l.fn.work);
    }
