use Rattle.std.proofs.Common.{sym, ◌∙◌, arith}
use Rattle.arith.proofs.Loops.{each_done, each_turn}
use Rattle.bspline.specs.Powers.{row_turn, degree_turn}
use Rattle.bspline.proofs.basis.raise_rows.Goals as goal

pub loop-r-preserved : goal.loop-r-preserved
unfolding row_turn
loop-r-preserved c =
    let p = c.expand_row-p in
    rw (c.put_row.ensures, p.ensures.0, p.ensures.1) (sym (each_turn _ _ _ _ (omega arith)) ∙ c.loop-r.invariant)

pub returns : goal.returns
unfolding degree_turn
returns c =
    let e = sym (each_done _ _ _ _ (omega arith)) ∙ c.loop-r.invariant in
    rw (← e) c.put_row-2.ensures
