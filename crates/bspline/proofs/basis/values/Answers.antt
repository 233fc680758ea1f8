use Rattle.std.proofs.Common.{refl, sym, ap, ◌∙◌, arith}
use lib.Ieee.{Float}
use Rattle.arith.proofs.Loops.{each_done, each_turn}
use Rattle.bspline.specs.Values.{outer_turn, values_of, Outer}
use Rattle.bspline.proofs.basis.values.Goals as goal

pub loop-j-init : goal.loop-j-init
unfolding values_of
loop-j-init c = refl

pub loop-j-preserved : goal.loop-j-preserved
unfolding outer_turn
loop-j-preserved c =
    rw c.raise.ensures (ap (λ (s : Outer Float). s.row) (sym (each_turn _ _ _ _ (omega arith))) ∙ c.loop-j.invariant)

pub returns : goal.returns
returns c = ap (λ (s : Outer Float). s.row) (sym (each_done _ _ _ _ (omega arith))) ∙ c.loop-j.invariant
