-- The samples left, from the system as it is, give what all give.
use Rattle.std.proofs.Common.{◌≡◌, ◌+◌, ◌-◌, ◌≤◌, length}
use Rattle.arith.specs.Loop.{each}
use Rattle.fitting_rows.specs.Arrays.{arrays_at}
use Rattle.fit.specs.Region.{before, system_at}
use Rattle.fitting_rows.specs.Samples.{dense_of}
use Rattle.fit.specs.Assembly.{assembled, sample_turn, samples_of}
use Rattle.fit.proofs.assembly.add_samples.Given as goal

abbrev pub invariant-loop-i : goal.invariant-loop-i
invariant-loop-i l =
    let x = arrays_at l.w.place (before l.w.place l.fn.work) in
    record {
      rows_few : l.rows + l.first ≤ l.i;
      rows_le_last : l.rows ≤ l.last;
      length_same : length l.work ≡ length l.fn.work;
      arrays_same : before l.w.place l.work ≡ before l.w.place l.fn.work;
      seen_dense : l.seen.dense ≡ dense_of x.t x.s l.seen.span;
      left : each (sample_turn x l.w.a l.w.z) l.i l.last (assembled l.rows (system_at l.w.place (l.w.z - l.w.a) l.work))
          ≡ samples_of x l.w.a l.w.z l.first l.last (assembled 0 (system_at l.w.place (l.w.z - l.w.a) l.fn.work));
    }
