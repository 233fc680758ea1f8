-- The orders left, from the system as it is, give what all give.
use Rattle.std.proofs.Common.{◌≡◌}
use Rattle.arith.specs.Loop.{each}
use Rattle.fitting_rows.specs.Arrays.{arrays_at}
use Rattle.smoothing.specs.Interpolate.{end_turns}
use Rattle.interpolation.specs.Memory.{system_in}
use Rattle.interpolation.proofs.Turns.{end_turn}
use Rattle.interpolation.proofs.assembly.add_end.Given as goal

abbrev pub invariant-loop-r : goal.invariant-loop-r
invariant-loop-r l =
    let x = arrays_at l.q l.fn.work in
    record {
      arrays_same : arrays_at l.q l.work ≡ x;
      left : each (end_turn x l.u l.h) l.r 3 (system_in l.q l.work)
          ≡ end_turns l.q.samples l.q.axes x.s x.y l.u l.h (system_in l.q l.fn.work);
    }
