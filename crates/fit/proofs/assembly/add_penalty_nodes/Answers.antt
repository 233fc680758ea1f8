use Rattle.std.proofs.Common.{◌-◌, List, refl, sym, ap, ◌∙◌, arith}
use lib.Ieee.{Float}
use Rattle.arith.proofs.Loops.{each_done, each_next}
use Rattle.fitting_rows.specs.Arrays.{arrays_at}
use Rattle.fit.specs.Region.{system_at}
use Rattle.fitting_rows.specs.Penalty.{penalty_row_of}
use Rattle.fit.specs.Assembly.{added, nodes_of}
use Rattle.fit.proofs.assembly.add_penalty_nodes.Goals as goal

pub loop-r-init : goal.loop-r-init
unfolding nodes_of
loop-r-init c = record { arrays_same = refl; left = refl }

pub add_penalty_node-requires : goal.add_penalty_node-requires
add_penalty_node-requires c = (rw c.loop-r.auto.work c.requires.0, omega arith, omega arith, omega arith)

pub loop-r-preserved : goal.loop-r-preserved
loop-r-preserved c =
    let a = c.args in
    let p = a.w.place in
    let l = c.loop-r in
    let v = c.add_penalty_node.ensures in
    let s = system_at p (a.w.z - a.w.a) l.work in
    let e = v.work_after ∙ ap (λ (u : List Float). added (arrays_at p u) a.w.a a.w.z (penalty_row_of (arrays_at p u) a.strength a.span l.r)
    s) l.invariant.arrays_same in
    record {
      arrays_same = v.work_unchanged ∙ l.invariant.arrays_same;
      left = each_next _ _ _ (omega arith) e l.invariant.left;
    }

pub returns : goal.returns
returns c =
    let l = c.loop-r in
    record {
      work_unchanged = l.invariant.arrays_same;
      work_after = sym (each_done _ _ _ _ (omega arith)) ∙ l.invariant.left;
    }
