-- `chord::greville` meets its contract.
use mathlib.Core.Path.{refl, sym, ap, ◌∙◌}
use native.Mathlib.Omega.{arith}
use lib.Ieee.{Float, binary64, div, of_bits, neg, round}
use Rattle.arith.specs.Operations.{floats}
use Rattle.arith.proofs.Loops.{each_done, each_turn}
use Rattle.smoothing.specs.Start.{greville_of}
use Rattle.selected_axes.proofs.chord.greville.Goals as goal

pub loop-j-init : goal.loop-j-init
unfolding of_bits neg
loop-j-init c = refl

pub loop-j-preserved : goal.loop-j-preserved
loop-j-preserved c = sym (each_turn _ _ _ _ (omega arith)) ∙ c.loop-j.invariant

pub returns : goal.returns
unfolding greville_of of_bits round
returns c = ap (λ (v : Float). div binary64 v (floats.literal 5 1)) (sym (each_done _ _ _ _ (omega arith)) ∙ c.loop-j.invariant)
