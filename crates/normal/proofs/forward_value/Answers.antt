use Rattle.std.proofs.Common.{◌≡◌, ◌+◌, ◌-◌, ◌*◌, min, sym, ◌∙◌, arith}
use Rattle.arith.proofs.Loops.{each_next, each_done}
use Rattle.arith.proofs.Rows.{rows_le}
use Rattle.normal.specs.Solve.{forward_term_of, forward_value_of}
use Rattle.normal.proofs.Region.{read_right, less_product}
use Rattle.normal.proofs.forward_value.Goals as goal

pub overflow_mul-v-in-loop-k-2 : goal.overflow_mul-v-in-loop-k-2
overflow_mul-v-in-loop-k-2 c =
    let a = c.args in
    omega (arith, rows_le (a.i - c.loop-k.k) a.i a.d (a.i * a.d) (omega arith) (omega arith))

pub overflow_add-v-in-loop-k-2 : goal.overflow_add-v-in-loop-k-2
overflow_add-v-in-loop-k-2 c =
    let a = c.args in
    omega (arith, rows_le (a.i - c.loop-k.k) a.i a.d (a.i * a.d) (omega arith) (omega arith))

pub overflow_add-v-in-loop-k-3 : goal.overflow_add-v-in-loop-k-3
overflow_add-v-in-loop-k-3 c =
    let a = c.args in
    omega (arith, rows_le (a.i - c.loop-k.k) a.i a.d (a.i * a.d) (omega arith) (omega arith))

pub offset_bounds-sys-right-in-loop-k : goal.offset_bounds-sys-right-in-loop-k
offset_bounds-sys-right-in-loop-k c =
    let a = c.args in
    omega (arith, rows_le (a.i - c.loop-k.k) a.i a.d (a.i * a.d) (omega arith) (omega arith))

pub bounds-sys-right-in-loop-k : goal.bounds-sys-right-in-loop-k
bounds-sys-right-in-loop-k c =
    let a = c.args in
    omega (arith, rows_le (a.i - c.loop-k.k) a.i a.d (a.i * a.d) (omega arith) (omega arith))

pub loop-k-init : goal.loop-k-init
unfolding forward_value_of
loop-k-init c =
    let a = c.args in
    let e : c.min-k-end.result ≡ min 5 a.i = omega arith in
    rw (e, read_right a.n a.d a.sys.now (a.i * a.d + a.axis) (omega arith))

pub loop-k-preserved : goal.loop-k-preserved
unfolding forward_term_of
loop-k-preserved c =
    let l = c.loop-k in
    let a = c.args in
    let h = rows_le (a.i - l.k) a.i a.d (a.i * a.d) (omega arith) (omega arith) in
    each_next _ _ _ (omega arith)
    (less_product a.n a.d a.sys.now l.v (6 * a.i + l.k) ((a.i - l.k) * a.d + a.axis) (omega arith) (omega arith)) l.invariant

pub returns : goal.returns
returns c = sym (each_done _ _ _ _ (omega arith)) ∙ c.loop-k.invariant
