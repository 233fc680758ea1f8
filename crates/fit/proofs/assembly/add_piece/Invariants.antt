-- The nodes left, from the system as it is, give what all give.
use Rattle.std.proofs.Common.{◌≡◌, ◌+◌, ◌-◌}
use Rattle.arith.specs.Loop.{each}
use Rattle.fitting_rows.specs.Arrays.{arrays_at}
use Rattle.fit.specs.Region.{before, system_at}
use Rattle.fitting_rows.specs.Pieces.{node_row_of}
use Rattle.fit.specs.Assembly.{assembled, counted, piece_of}
use Rattle.fit.proofs.assembly.add_piece.Given as goal

abbrev pub invariant-loop-r : goal.invariant-loop-r
invariant-loop-r l =
    let x = arrays_at l.w.place (before l.w.place l.fn.work) in
    record {
      arrays_same : before l.w.place l.work ≡ before l.w.place l.fn.work;
      left : each (λ r k. counted x l.w.a l.w.z (node_row_of x l.from l.h r) k) l.r 6
          (assembled (l.rows + l.r) (system_at l.w.place (l.w.z - l.w.a) l.work))
          ≡ piece_of x l.w.a l.w.z l.from l.to (assembled l.rows (system_at l.w.place (l.w.z - l.w.a) l.fn.work));
    }
