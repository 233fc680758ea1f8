-- The spans left, from the system as it is, give what all give.
use Rattle.std.proofs.Common.{◌≡◌, ◌-◌}
use Rattle.arith.specs.Loop.{each}
use Rattle.fitting_rows.specs.Arrays.{arrays_at}
use Rattle.fit.specs.Region.{before, system_at}
use Rattle.fit.specs.Assembly.{penalty_turn, penalties_of}
use Rattle.fit.proofs.assembly.add_penalties.Given as goal

abbrev pub invariant-loop-span : goal.invariant-loop-span
invariant-loop-span l =
    let x = arrays_at l.w.place (before l.w.place l.fn.work) in
    record {
      arrays_same : before l.w.place l.work ≡ before l.w.place l.fn.work;
      left : each (penalty_turn x l.w.a l.w.z l.strength) l.span l.w.place.count (system_at l.w.place (l.w.z - l.w.a) l.work)
          ≡ penalties_of x l.w.a l.w.z l.strength (system_at l.w.place (l.w.z - l.w.a) l.fn.work);
    }
