use Rattle.std.proofs.Common.{sym, ap, ◌∙◌, arith}
use lib.Ieee.{Float}
use Rattle.arith.proofs.Loops.{each_done, each_turn}
use Rattle.bspline.specs.Segments.{scale_turn, Scaled}
use Rattle.bspline.proofs.segments.scale_by.Goals as goal

pub loop-k-preserved : goal.loop-k-preserved
unfolding scale_turn
loop-k-preserved c = sym (each_turn _ _ _ _ (omega arith)) ∙ c.loop-k.invariant

pub returns : goal.returns
returns c = ap (λ (s : Scaled Float). s.coefficients) (sym (each_done _ _ _ _ (omega arith)) ∙ c.loop-k.invariant)
