use Rattle.std.proofs.Common.{refl, sym, ap, ◌∙◌, arith}
use lib.Ieee.{Float}
use Rattle.arith.proofs.Loops.{each_done, each_turn}
use Rattle.bspline.specs.Powers.{expansion_turn, expand, Expansion}
use Rattle.bspline.proofs.basis.expand_row.Goals as goal

pub loop-k-init : goal.loop-k-init
unfolding expand
loop-k-init c = refl

pub loop-k-preserved : goal.loop-k-preserved
unfolding expansion_turn
loop-k-preserved c = rw c.previous-prev.ensures (sym (each_turn _ _ _ _ (omega arith)) ∙ c.loop-k.invariant)

pub returns : goal.returns
returns c =
    let e = sym (each_done _ _ _ _ (omega arith)) ∙ c.loop-k.invariant in
    (ap (λ (s : Expansion Float). s.next) e, ap (λ (s : Expansion Float). s.upper) e)
