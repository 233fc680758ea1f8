use Rattle.std.proofs.Common.{refl, sym, ◌∙◌, arith}
use Rattle.arith.proofs.Loops.{each_done, each_turn}
use Rattle.bspline.specs.Powers.{powers_of}
use Rattle.bspline.proofs.basis.powers.Goals as goal

pub loop-j-init : goal.loop-j-init
unfolding powers_of
loop-j-init c = refl

pub loop-j-preserved : goal.loop-j-preserved
loop-j-preserved c = rw c.raise_rows.ensures (sym (each_turn _ _ _ _ (omega arith)) ∙ c.loop-j.invariant)

pub returns : goal.returns
returns c = sym (each_done _ _ _ _ (omega arith)) ∙ c.loop-j.invariant
