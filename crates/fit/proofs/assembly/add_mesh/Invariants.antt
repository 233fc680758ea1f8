-- The pieces left, from the system as it is, give what all give.
use Rattle.std.proofs.Common.{◌≡◌, ◌+◌, ◌-◌, ◌*◌, ◌≤◌}
use Rattle.arith.specs.Loop.{each}
use Rattle.fitting_rows.specs.Arrays.{arrays_at}
use Rattle.fit.specs.Region.{before, system_at}
use Rattle.fit.specs.Assembly.{assembled, mesh_turn, mesh_of}
use Rattle.fit.proofs.assembly.add_mesh.Given as goal

abbrev pub invariant-loop-j : goal.invariant-loop-j
invariant-loop-j l =
    let x = arrays_at l.w.place (before l.w.place l.fn.work) in
    record {
      six_each : l.count + 6 * l.mesh.begin ≡ l.rows + 6 * l.j;
      upper_bound : l.count ≤ l.rows + 6 * (l.mesh.end + 1);
      arrays_same : before l.w.place l.work ≡ before l.w.place l.fn.work;
      left : each (mesh_turn x l.w.a l.w.z l.mesh) l.j (l.mesh.end + 1) (assembled l.count (system_at l.w.place (l.w.z - l.w.a) l.work))
          ≡ mesh_of x l.w.a l.w.z l.mesh (assembled l.rows (system_at l.w.place (l.w.z - l.w.a) l.fn.work));
    }
