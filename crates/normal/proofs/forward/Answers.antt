use Rattle.std.proofs.Common.{◌*◌, refl, sym, ◌∙◌, arith}
use Rattle.arith.proofs.Loops.{each_next, each_done}
use Rattle.arith.proofs.Rows.{row_end}
use Rattle.normal.specs.Solve.{forward_of}
use Rattle.normal.proofs.forward.Goals as goal

pub forward_row-requires : goal.forward_row-requires
forward_row-requires c =
    let a = c.args in
    omega (arith, row_end c.loop-i.i a.n a.d (a.n * a.d) (omega arith) (omega arith))

pub loop-i-init : goal.loop-i-init
unfolding forward_of
loop-i-init c = refl

pub loop-i-preserved : goal.loop-i-preserved
loop-i-preserved c =
    each_next _ _ _ (omega arith) c.forward_row.ensures c.loop-i.invariant

pub returns : goal.returns
returns c = sym (each_done _ _ _ _ (omega arith)) ∙ c.loop-i.invariant
