use Rattle.std.proofs.Common.{◌∙◌, arith}
use Rattle.figure.specs.Figure.{halved_figure}
use Rattle.certificate.specs.Structs.{pair_at}
use Rattle.certificate.proofs.Coefficients.{halved_same}
use Rattle.certificate.proofs.halving.own_figure.Goals as goal

pub returns-in-None : goal.returns-in-None
unfolding halved_figure
returns-in-None c = c.six_figure.ensures ∙ halved_same 0 (pair_at c.bernstein_pairs.result) _ (λ k l. c.bernstein_pairs.ensures k (omega arith))
