use Rattle.std.proofs.Common.{sym, ◌∙◌, arith}
use lib.Ieee.{of_bits, round}
use Rattle.arith.proofs.Loops.{back_done, back_turn}
use Rattle.bspline.specs.Choose.{factorials}
use Rattle.query.specs.Segment.{horner_turn, horner_of}
use Rattle.query.proofs.segment.horner.Goals as goal

pub loop-k-preserved : goal.loop-k-preserved
unfolding horner_turn factorials of_bits round
loop-k-preserved c = sym (back_turn _ _ _ _ c.loop-k-test.true) ∙ c.loop-k.invariant

pub returns : goal.returns
unfolding horner_of
returns c = sym (back_done _ _ _ _ (omega arith)) ∙ c.loop-k.invariant
