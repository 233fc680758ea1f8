use Rattle.std.proofs.Common.{refl, sym, ◌∙◌, arith}
use Rattle.arith.proofs.Loops.{each_done, each_next}
use Rattle.bspline.specs.Placed.{spans_put}
use Rattle.bspline.proofs.segments.put_spans.Goals as goal

pub loop-span-init : goal.loop-span-init
unfolding spans_put
loop-span-init c = refl

pub loop-span-preserved : goal.loop-span-preserved
loop-span-preserved c = each_next _ _ _ (omega arith) c.put_span.ensures.1 c.loop-span.invariant

pub returns : goal.returns
returns c = sym (each_done _ _ _ _ (omega arith)) ∙ c.loop-span.invariant
