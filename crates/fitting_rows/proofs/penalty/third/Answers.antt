use Rattle.std.proofs.Common.{refl, sym, ◌∙◌, arith}
use lib.Ieee.{of_bits, round}
use Rattle.arith.proofs.Loops.{each_done, each_next}
use Rattle.fitting_rows.specs.Penalty.{third_of}
use Rattle.fitting_rows.proofs.penalty.third.Goals as goal

pub loop-i-init : goal.loop-i-init
unfolding third_of
loop-i-init c = refl

pub loop-i-preserved : goal.loop-i-preserved
unfolding of_bits round
loop-i-preserved c = each_next _ _ _ (omega arith) refl c.loop-i.invariant

pub returns : goal.returns
returns c = sym (each_done _ _ _ _ (omega arith)) ∙ c.loop-i.invariant
