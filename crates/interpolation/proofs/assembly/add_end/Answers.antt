use Rattle.std.proofs.Common.{refl, sym, ap, ◌∙◌, arith}
use Rattle.arith.proofs.Loops.{each_done, each_next}
use Rattle.normal.specs.Add.{add_of}
use Rattle.fitting_rows.specs.Arrays.{Arrays, arrays_at}
use Rattle.smoothing.specs.Interpolate.{end_turns}
use Rattle.interpolation.specs.Memory.{system_in}
use Rattle.interpolation.specs.Rows.{end_row}
use Rattle.interpolation.proofs.Turns.{end_added}
use Rattle.interpolation.proofs.assembly.add_end.Goals as goal

pub loop-r-init : goal.loop-r-init
unfolding end_turns
loop-r-init c = record { arrays_same = refl; left = refl }

pub add_derivative-requires : goal.add_derivative-requires
add_derivative-requires c = (rw c.loop-r.auto.work c.requires.0, omega arith)

pub loop-r-preserved : goal.loop-r-preserved
loop-r-preserved c =
    let q = c.args.q in
    let x = arrays_at q c.args.work.now in
    let l = c.loop-r in
    let v = c.add_derivative.ensures in
    let a = system_in q l.work in
    let e =
    v.work_after
    ∙ ap (λ (z : Arrays). add_of 0 q.count q.axes (end_row z c.args.u c.args.h l.r) a) l.invariant.arrays_same
    ∙ end_added x c.requires.1 a c.args.u c.args.h l.r in
    record {
      arrays_same = v.work_unchanged ∙ l.invariant.arrays_same;
      left = each_next _ _ _ (omega arith) e l.invariant.left;
    }

pub returns : goal.returns
returns c =
    let l = c.loop-r in
    record {
      work_unchanged = l.invariant.arrays_same;
      work_after = sym (each_done _ _ _ _ (omega arith)) ∙ l.invariant.left;
    }
