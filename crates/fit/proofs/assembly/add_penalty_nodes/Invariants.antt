-- The nodes left, from the system as it is, give what all give.
use Rattle.std.proofs.Common.{◌≡◌, ◌-◌}
use Rattle.arith.specs.Loop.{each}
use Rattle.fitting_rows.specs.Arrays.{arrays_at}
use Rattle.fit.specs.Region.{before, system_at}
use Rattle.fitting_rows.specs.Penalty.{penalty_row_of}
use Rattle.fit.specs.Assembly.{added, nodes_of}
use Rattle.fit.proofs.assembly.add_penalty_nodes.Given as goal

abbrev pub invariant-loop-r : goal.invariant-loop-r
invariant-loop-r l =
    let x = arrays_at l.w.place (before l.w.place l.fn.work) in
    record {
      arrays_same : before l.w.place l.work ≡ before l.w.place l.fn.work;
      left : each (λ r k. added x l.w.a l.w.z (penalty_row_of x l.strength l.span r) k) l.r 3 (system_at l.w.place (l.w.z - l.w.a) l.work)
          ≡ nodes_of x l.w.a l.w.z l.strength l.span (system_at l.w.place (l.w.z - l.w.a) l.fn.work);
    }
