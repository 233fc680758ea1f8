use Rattle.std.proofs.Common.{sym, ◌∙◌, arith}
use Rattle.arith.proofs.Loops.{each_done, each_turn}
use Rattle.bspline.specs.Segments.{add_turn}
use Rattle.bspline.proofs.segments.add_row.Goals as goal

pub loop-k-preserved : goal.loop-k-preserved
unfolding add_turn
loop-k-preserved c = sym (each_turn _ _ _ _ (omega arith)) ∙ c.loop-k.invariant

pub returns : goal.returns
returns c = sym (each_done _ _ _ _ (omega arith)) ∙ c.loop-k.invariant
