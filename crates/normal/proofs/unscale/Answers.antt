use Rattle.std.proofs.Common.{◌*◌, refl, sym, ◌∙◌, arith}
use Rattle.arith.proofs.Loops.{each_next, each_done}
use Rattle.arith.proofs.Rows.{row_end}
use Rattle.normal.specs.Solve.{unscale_of}
use Rattle.normal.proofs.unscale.Goals as goal

pub divide_row-requires : goal.divide_row-requires
divide_row-requires c =
    let a = c.args in
    omega (arith, row_end c.loop-i.i a.n a.d (a.n * a.d) (omega arith) (omega arith))

pub loop-i-init : goal.loop-i-init
unfolding unscale_of
loop-i-init c = refl

pub loop-i-preserved : goal.loop-i-preserved
loop-i-preserved c =
    each_next _ _ _ (omega arith) c.divide_row.ensures c.loop-i.invariant

pub returns : goal.returns
returns c = sym (each_done _ _ _ _ (omega arith)) ∙ c.loop-i.invariant
