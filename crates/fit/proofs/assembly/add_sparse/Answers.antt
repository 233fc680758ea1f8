use Rattle.std.proofs.Common.{◌-◌, List, refl, sym, ap, ◌∙◌, arith}
use lib.Ieee.{Float}
use Rattle.arith.proofs.Loops.{each_done, each_next}
use Rattle.fitting_rows.specs.Arrays.{arrays_at}
use Rattle.fit.specs.Region.{system_at}
use Rattle.fit.specs.Assembly.{assembled, low, high, sparse_turn, sparse_of}
use Rattle.fit.proofs.assembly.add_sparse.Goals as goal

pub loop-span-init : goal.loop-span-init
unfolding sparse_of
loop-span-init c = record { upper_bound = omega arith; arrays_same = refl; left = refl }

pub add_span-count-requires : goal.add_span-count-requires
add_span-count-requires c =
    let a = c.args in
    let l = c.loop-span in
    let b = sym l.invariant.arrays_same in
    record {
      window_laid = (rw l.auto.work c.requires.window_laid.0, omega arith, omega arith);
      lo_value = (
        c.requires.lo_value.0 ∙ ap (λ (u : List Float). low (arrays_at a.w.place u) a.w.a a.w.z) b,
        c.requires.lo_value.1 ∙ ap (λ (u : List Float). high (arrays_at a.w.place u) a.w.a a.w.z) b,
      );
    }

pub loop-span-preserved : goal.loop-span-preserved
loop-span-preserved c =
    let a = c.args in
    let p = a.w.place in
    let l = c.loop-span in
    let v = c.add_span-count.ensures in
    let n = assembled l.count (system_at p (a.w.z - a.w.a) l.work) in
    let e = v.work_after ∙ ap (λ (u : List Float). sparse_turn (arrays_at p u) a.w.a a.w.z l.span n) l.invariant.arrays_same in
    record {
      upper_bound = omega arith;
      arrays_same = v.work_unchanged ∙ l.invariant.arrays_same;
      left = each_next _ _ _ (omega arith) e l.invariant.left;
    }

pub returns : goal.returns
returns c =
    let l = c.loop-span in
    record {
      work_unchanged = l.invariant.arrays_same;
      work_after = sym (each_done _ _ _ _ (omega arith)) ∙ l.invariant.left;
    }
