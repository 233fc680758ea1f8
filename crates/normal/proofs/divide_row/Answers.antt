use Rattle.std.proofs.Common.{◌+◌, ◌*◌, sym, ◌∙◌, arith}
use Rattle.arith.proofs.Loops.{each_next, each_done}
use Rattle.normal.specs.Solve.{divide_of, divide_row_of}
use Rattle.normal.proofs.Region.{read_right, read_scale, put_right}
use Rattle.normal.proofs.divide_row.Goals as goal

pub loop-axis-init : goal.loop-axis-init
unfolding divide_row_of
loop-axis-init c =
    let a = c.args in
    rw (read_scale a.n a.d a.sys.now a.i (omega arith))

pub loop-axis-preserved : goal.loop-axis-preserved
unfolding divide_of
loop-axis-preserved c =
    let l = c.loop-axis in
    let a = c.args in
    let e = put_right a.n a.d l.sys (a.i * a.d + l.axis) _ (omega arith) in
    each_next _ _ _ (omega arith) (e ∙ rw (read_right a.n a.d l.sys (a.i * a.d + l.axis) (omega arith))) l.invariant

pub returns : goal.returns
returns c = sym (each_done _ _ _ _ (omega arith)) ∙ c.loop-axis.invariant
