use Rattle.std.proofs.Common.{◌∙◌, arith}
use Rattle.figure.specs.Figure.{halved_figure, intersection_figure}
use Rattle.certificate.specs.Structs.{pair_at}
use Rattle.certificate.proofs.Coefficients.{halved_same}
use Rattle.certificate.proofs.halving.deep_figure.Goals as goal

pub returns-then-depth-eq0 : goal.returns-then-depth-eq0
unfolding intersection_figure halved_figure
returns-then-depth-eq0 c = rw c.if-depth-eq0.true c.requires

pub returns : goal.returns
unfolding intersection_figure
returns c = c.halved_figure.ensures ∙ halved_same _ (pair_at c.bernstein_pairs.result) _ (λ k l. c.bernstein_pairs.ensures k (omega arith))
