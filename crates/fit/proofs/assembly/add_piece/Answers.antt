use Rattle.std.proofs.Common.{◌≡◌, ◌+◌, ◌-◌, List, refl, sym, ap, ◌∙◌, arith}
use lib.Ieee.{Float, binary64, sub}
use Rattle.arith.proofs.Loops.{each_done, each_next}
use Rattle.fitting_rows.specs.Arrays.{arrays_at}
use Rattle.fit.specs.Region.{before, system_at}
use Rattle.fitting_rows.specs.Pieces.{node_row_of}
use Rattle.fit.specs.Assembly.{assembled, added, piece_of}
use Rattle.fit.proofs.Turns.{row_counted}
use Rattle.fit.proofs.assembly.add_piece.Goals as goal

pub loop-r-init : goal.loop-r-init
unfolding piece_of
loop-r-init c =
    let a = c.args in
    let e : a.rows + 0 ≡ a.rows = omega arith in
    record { arrays_same = refl; left = rw e }

pub add_node-requires : goal.add_node-requires
add_node-requires c = (rw c.loop-r.auto.work c.requires.0, omega arith)

pub loop-r-preserved : goal.loop-r-preserved
loop-r-preserved c =
    let a = c.args in
    let p = a.w.place in
    let l = c.loop-r in
    let x = arrays_at p (before p a.work.now) in
    let v = c.add_node.ensures in
    let h = sub binary64 a.to a.from in
    let s = system_at p (a.w.z - a.w.a) l.work in
    let n : a.rows + (l.r + 1) ≡ a.rows + l.r + 1 = omega arith in
    let e = ap (assembled (a.rows + l.r + 1)) (v.work_after ∙ ap (λ (u : List Float). added (arrays_at p u) a.w.a a.w.z
    (node_row_of (arrays_at p u) a.from h l.r) s) l.invariant.arrays_same) ∙ row_counted x a.w.a a.w.z (node_row_of x a.from h l.r) (a.rows + l.r)
    s in
    record {
      arrays_same = v.work_unchanged ∙ l.invariant.arrays_same;
      left = rw n (each_next _ _ _ (omega arith) e l.invariant.left);
    }

pub returns : goal.returns
returns c =
    let l = c.loop-r in
    let e : l.r ≡ 6 = omega arith in
    record {
      work_unchanged = l.invariant.arrays_same;
      work_after = sym (each_done _ 6 6 _ (omega arith)) ∙ (rw e at l.invariant.left);
      value = refl;
    }
