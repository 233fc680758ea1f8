use Rattle.std.proofs.Common.{◌-◌, List, refl, sym, ap, ◌∙◌, arith}
use lib.Ieee.{Float}
use Rattle.arith.proofs.Loops.{each_done, each_next}
use Rattle.fitting_rows.specs.Arrays.{arrays_at}
use Rattle.fit.specs.Region.{system_at}
use Rattle.fit.specs.Assembly.{assembled, mesh_turn, mesh_of}
use Rattle.fit.proofs.assembly.add_mesh.Goals as goal

pub loop-j-init : goal.loop-j-init
unfolding mesh_of
loop-j-init c = record { six_each = refl; upper_bound = omega arith; arrays_same = refl; left = refl }

pub add_mesh_piece-count-requires : goal.add_mesh_piece-count-requires
add_mesh_piece-count-requires c =
    (rw c.loop-j.auto.work c.requires.0, omega arith, omega arith, omega arith, omega arith)

pub loop-j-preserved : goal.loop-j-preserved
loop-j-preserved c =
    let a = c.args in
    let p = a.w.place in
    let l = c.loop-j in
    let v = c.add_mesh_piece-count.ensures in
    let n = assembled l.count (system_at p (a.w.z - a.w.a) l.work) in
    let e = v.work_after ∙ ap (λ (u : List Float). mesh_turn (arrays_at p u) a.w.a a.w.z a.mesh l.j n) l.invariant.arrays_same in
    record {
      six_each = omega arith;
      upper_bound = omega arith;
      arrays_same = v.work_unchanged ∙ l.invariant.arrays_same;
      left = each_next _ _ _ (omega arith) e l.invariant.left;
    }

pub returns : goal.returns
returns c =
    let l = c.loop-j in
    record {
      work_unchanged = l.invariant.arrays_same;
      work_after = sym (each_done _ _ _ _ (omega arith)) ∙ l.invariant.left;
      upper_bound = omega arith;
    }
