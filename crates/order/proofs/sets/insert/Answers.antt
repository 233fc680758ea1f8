-- The bits of the two sets, of which one has one lane.
use Rattle.std.proofs.Common.{ap, ◌∙◌, Bool, ◌||◌}
use Rattle.order.specs.Sets.{held}
use Rattle.order.proofs.Bits.{held_or, held_one}
use Rattle.order.proofs.sets.insert.Goals as goal

pub returns : goal.returns
returns c l =
    let a = c.args in
    held_or a.set _ l ∙ ap (λ (b : Bool). held a.set l || b) (held_one a.lane l c.requires)
