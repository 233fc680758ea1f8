-- One bound more.
use Rattle.std.proofs.Common.{arith, refl, sym, ap, ◌∙◌}
use Rattle.arith.proofs.Loops.{each_done, each_next}
use Rattle.smoothing.specs.Round.{worst_of}
use Rattle.refinement.proofs.refine.worst.Goals as goal

pub loop-i-init : goal.loop-i-init
unfolding worst_of
loop-i-init c = refl

pub loop-i-preserved : goal.loop-i-preserved
loop-i-preserved c = each_next _ _ _ (omega arith) c.max-w.ensures c.loop-i.invariant

pub returns : goal.returns
returns c = sym (each_done _ _ _ _ (omega arith)) ∙ c.loop-i.invariant ∙ ap worst_of c.bounds-bounds.ensures
