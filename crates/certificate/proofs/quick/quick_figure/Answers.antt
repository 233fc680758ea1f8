use Rattle.std.proofs.Common.{◌∙◌}
use Rattle.arith.proofs.Truth.{and_parts}
use Rattle.certificate.proofs.LargestEnd.{none_is_none}
use Rattle.certificate.proofs.quick.quick_figure.Goals as goal

pub returns-then-good : goal.returns-then-good
returns-then-good c = λ v h.
    let t = and_parts _ _ c.if-good.true in
    let M = c.moderate.ensures t.0 in
    c.figure_of-f.ensures c.if-good.true M (c.lengths_of-l.ensures M.parameters) (c.divisible.ensures t.1) ∙ h

pub returns-else-good : goal.returns-else-good
returns-else-good c = λ v h. none_is_none v h
