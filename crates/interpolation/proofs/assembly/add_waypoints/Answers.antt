use Rattle.std.proofs.Common.{refl, sym, ap, ◌∙◌, arith}
use Rattle.arith.proofs.Loops.{each_done, each_next}
use Rattle.normal.specs.Add.{add_of}
use Rattle.fitting_rows.specs.Arrays.{Arrays, arrays_at}
use Rattle.interpolation.specs.Memory.{system_in}
use Rattle.interpolation.specs.Rows.{waypoint_row}
use Rattle.interpolation.proofs.Turns.{waypoint_added}
use Rattle.interpolation.proofs.assembly.add_waypoints.Goals as goal

pub loop-i-init : goal.loop-i-init
loop-i-init c = record { arrays_same = refl; left = refl }

pub add_waypoint-requires : goal.add_waypoint-requires
add_waypoint-requires c = (rw c.loop-i.auto.work c.requires.0, omega arith)

pub loop-i-preserved : goal.loop-i-preserved
loop-i-preserved c =
    let q = c.args.q in
    let x = arrays_at q c.args.work.now in
    let l = c.loop-i in
    let v = c.add_waypoint.ensures in
    let a = system_in q l.work in
    let e =
    v.work_after ∙ ap (λ (z : Arrays). add_of 0 q.count q.axes (waypoint_row z l.i) a) l.invariant.arrays_same
    ∙ waypoint_added x c.requires.1 a l.i in
    record {
      arrays_same = v.work_unchanged ∙ l.invariant.arrays_same;
      left = each_next _ _ _ (omega arith) e l.invariant.left;
    }

pub returns : goal.returns
returns c =
    let l = c.loop-i in
    record {
      work_unchanged = l.invariant.arrays_same;
      work_after = sym (each_done _ _ _ _ (omega arith)) ∙ l.invariant.left;
    }
