use Rattle.std.proofs.Common.{refl, sym, ◌∙◌, arith}
use Rattle.arith.proofs.Loops.{each_next, each_done}
use Rattle.normal.specs.Solve.{forward_cell_of, forward_row_of}
use Rattle.normal.proofs.Region.{put_quotient}
use Rattle.normal.proofs.forward_row.Goals as goal

pub loop-axis-init : goal.loop-axis-init
unfolding forward_row_of
loop-axis-init c = refl

pub loop-axis-preserved : goal.loop-axis-preserved
unfolding forward_cell_of
loop-axis-preserved c =
    let l = c.loop-axis in
    let a = c.args in
    let v = c.forward_value-v in
    each_next _ _ _ (omega arith)
    (put_quotient a.n a.d l.sys a.i l.axis v.result (omega arith) (omega arith) ∙ rw v.ensures) l.invariant

pub returns : goal.returns
returns c = sym (each_done _ _ _ _ (omega arith)) ∙ c.loop-axis.invariant
