use Rattle.std.proofs.Common.{◌+◌, ◌-◌, ◌*◌, sym, ◌∙◌, arith}
use Rattle.arith.proofs.Loops.{each_next, each_done}
use Rattle.arith.proofs.Rows.{row_end}
use Rattle.normal.specs.Solve.{back_term_of, back_value_of}
use Rattle.normal.proofs.Region.{read_right, less_product}
use Rattle.normal.proofs.back_value.Goals as goal

pub overflow_mul-v-in-loop-j-2 : goal.overflow_mul-v-in-loop-j-2
overflow_mul-v-in-loop-j-2 c =
    let a = c.args in
    omega (arith, row_end c.loop-j.j a.n a.d (a.n * a.d) (omega arith) (omega arith))

pub overflow_add-v-in-loop-j-2 : goal.overflow_add-v-in-loop-j-2
overflow_add-v-in-loop-j-2 c =
    let a = c.args in
    omega (arith, row_end c.loop-j.j a.n a.d (a.n * a.d) (omega arith) (omega arith))

pub overflow_add-v-in-loop-j-3 : goal.overflow_add-v-in-loop-j-3
overflow_add-v-in-loop-j-3 c =
    let a = c.args in
    omega (arith, row_end c.loop-j.j a.n a.d (a.n * a.d) (omega arith) (omega arith))

pub offset_bounds-sys-right-in-loop-j : goal.offset_bounds-sys-right-in-loop-j
offset_bounds-sys-right-in-loop-j c =
    let a = c.args in
    omega (arith, row_end c.loop-j.j a.n a.d (a.n * a.d) (omega arith) (omega arith))

pub bounds-sys-right-in-loop-j : goal.bounds-sys-right-in-loop-j
bounds-sys-right-in-loop-j c =
    let a = c.args in
    omega (arith, row_end c.loop-j.j a.n a.d (a.n * a.d) (omega arith) (omega arith))

pub loop-j-init : goal.loop-j-init
unfolding back_value_of
loop-j-init c =
    let a = c.args in
    rw (c.min-j-end.ensures, read_right a.n a.d a.sys.now (a.i * a.d + a.axis) (omega arith))

pub loop-j-preserved : goal.loop-j-preserved
unfolding back_term_of
loop-j-preserved c =
    let l = c.loop-j in
    let a = c.args in
    let h = row_end l.j a.n a.d (a.n * a.d) (omega arith) (omega arith) in
    each_next _ _ _ (omega arith)
    (less_product a.n a.d a.sys.now l.v (6 * l.j + (l.j - a.i)) (l.j * a.d + a.axis) (omega arith) (omega arith)) l.invariant

pub returns : goal.returns
returns c = sym (each_done _ _ _ _ (omega arith)) ∙ c.loop-j.invariant
