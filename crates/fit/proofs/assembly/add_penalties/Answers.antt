use Rattle.std.proofs.Common.{◌-◌, List, refl, sym, ap, ◌∙◌, arith}
use lib.Ieee.{Float}
use Rattle.arith.proofs.Loops.{each_done, each_next}
use Rattle.fitting_rows.specs.Arrays.{arrays_at}
use Rattle.fit.specs.Region.{system_at}
use Rattle.fit.specs.Assembly.{low, high, penalty_turn, penalties_of}
use Rattle.fit.proofs.assembly.add_penalties.Goals as goal

pub loop-span-init : goal.loop-span-init
unfolding penalties_of
loop-span-init c = record { arrays_same = refl; left = refl }

pub add_penalty-requires : goal.add_penalty-requires
add_penalty-requires c =
    let a = c.args in
    let l = c.loop-span in
    let b = sym l.invariant.arrays_same in
    record {
      window_laid = (rw l.auto.work c.requires.window_laid, omega arith, omega arith);
      lo_value = (
        c.requires.lo_value.0 ∙ ap (λ (u : List Float). low (arrays_at a.w.place u) a.w.a a.w.z) b,
        c.requires.lo_value.1 ∙ ap (λ (u : List Float). high (arrays_at a.w.place u) a.w.a a.w.z) b,
      );
    }

pub loop-span-preserved : goal.loop-span-preserved
loop-span-preserved c =
    let a = c.args in
    let p = a.w.place in
    let l = c.loop-span in
    let v = c.add_penalty.ensures in
    let e = v.work_after ∙ ap (λ (u : List Float). penalty_turn (arrays_at p u) a.w.a a.w.z a.strength l.span
    (system_at p (a.w.z - a.w.a) l.work)) l.invariant.arrays_same in
    record {
      arrays_same = v.work_unchanged ∙ l.invariant.arrays_same;
      left = each_next _ _ _ (omega arith) e l.invariant.left;
    }

pub returns : goal.returns
returns c =
    let l = c.loop-span in
    record {
      work_unchanged = l.invariant.arrays_same;
      work_after = sym (each_done _ _ _ _ (omega arith)) ∙ l.invariant.left;
    }
