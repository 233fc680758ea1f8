-- The spans left, from the system as it is, give what all give; each adds at most 6 * 65537 rows.
use Rattle.std.proofs.Common.{◌≡◌, ◌+◌, ◌-◌, ◌*◌, ◌≤◌}
use Rattle.arith.specs.Loop.{each}
use Rattle.fitting_rows.specs.Arrays.{arrays_at}
use Rattle.fit.specs.Region.{before, system_at}
use Rattle.fit.specs.Assembly.{assembled, sparse_turn, sparse_of}
use Rattle.fit.proofs.assembly.add_sparse.Given as goal

abbrev pub invariant-loop-span : goal.invariant-loop-span
invariant-loop-span l =
    let x = arrays_at l.w.place (before l.w.place l.fn.work) in
    record {
      upper_bound : l.count ≤ 65536 + 393222 * (l.span - 5);
      arrays_same : before l.w.place l.work ≡ before l.w.place l.fn.work;
      left : each (sparse_turn x l.w.a l.w.z) l.span l.w.place.count (assembled l.count (system_at l.w.place (l.w.z - l.w.a) l.work))
          ≡ sparse_of x l.w.a l.w.z (assembled l.rows (system_at l.w.place (l.w.z - l.w.a) l.fn.work));
    }
