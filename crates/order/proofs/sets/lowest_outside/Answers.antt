-- The first that is not in the set, or none.
use Rattle.std.proofs.Common.{refl, sym, ap, not, ◌∙◌}
use Rattle.arith.specs.First.{first_of}
use Rattle.arith.proofs.Firsts.{first_next, first_found}
use Rattle.order.specs.Sets.{held}
use Rattle.order.proofs.sets.lowest_outside.Goals as goal

pub loop-lane-init : goal.loop-lane-init
unfolding first_of
loop-lane-init c = refl

pub returns-then-not-has : goal.returns-then-not-has
returns-then-not-has c =
    let l = c.loop-lane in
    sym (first_found (λ k. not (held c.args.set k)) c.args.lanes l.lane c.loop-lane-test.true l.invariant
    (ap not (sym c.has.ensures ∙ c.if-not-has.true)))

pub loop-lane-preserved : goal.loop-lane-preserved
loop-lane-preserved c =
    let l = c.loop-lane in
    first_next (λ k. not (held c.args.set k)) l.lane l.invariant (ap not (sym c.has.ensures ∙ c.if-not-has.false))
