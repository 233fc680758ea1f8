use Rattle.std.proofs.Common.{◌*◌, ◌-◌, refl, sym, ap, ◌∙◌, arith}
use Rattle.arith.specs.Loop.{back}
use Rattle.arith.proofs.Loops.{back_done, back_turn}
use Rattle.arith.proofs.Rows.{row_end}
use Rattle.normal.specs.Solve.{back_row_of, backward_of}
use Rattle.normal.proofs.backward.Goals as goal

pub loop-i-init : goal.loop-i-init
unfolding backward_of
loop-i-init c = refl

pub back_row-requires : goal.back_row-requires
back_row-requires c =
    let a = c.args in
    omega (arith, row_end (c.loop-i.i - 1) a.n a.d (a.n * a.d) (omega arith) (omega arith))

pub loop-i-preserved : goal.loop-i-preserved
loop-i-preserved c =
    let a = c.args in
    ap (back (back_row_of a.n a.d) 0 (c.loop-i.i - 1)) c.back_row.ensures
    ∙ sym (back_turn _ _ _ _ (omega arith)) ∙ c.loop-i.invariant

pub returns : goal.returns
returns c = sym (back_done _ _ _ _ (omega arith)) ∙ c.loop-i.invariant
