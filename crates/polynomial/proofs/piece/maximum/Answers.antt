-- Each turn takes the larger.
use Rattle.std.proofs.Common.{arith, ap, sym, ◌∙◌}
use Rattle.arith.specs.Loop.{each}
use Rattle.arith.proofs.Loops.{each_done, each_next}
use Rattle.polynomial.specs.Largest.{largest_of}
use Rattle.polynomial.proofs.piece.maximum.Goals as goal
use Rattle.polynomial.proofs.piece.maximum.Goals.{then-m-a, else-m-a}

pub loop-k-init : goal.loop-k-init
unfolding largest_of
loop-k-init c = ap (each _ 1 6) c.abs-m.ensures

pub loop-k-preserved : goal.loop-k-preserved
loop-k-preserved c =
    elim c.if-m-a.branch [
      | then-m-a w ↦ each_next _ _ _ (omega arith) (rw (← c.abs-a.ensures, w.if-m-a.true) w.m-is) c.loop-k.invariant
      | else-m-a w ↦ each_next _ _ _ (omega arith) (rw (← c.abs-a.ensures, w.if-m-a.false) w.m-is) c.loop-k.invariant
    ]

pub returns : goal.returns
returns c = sym (each_done _ _ _ _ (omega arith)) ∙ c.loop-k.invariant
