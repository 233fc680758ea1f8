use Rattle.figure.specs.Figure.{halved_figure}
use Rattle.certificate.specs.Structs.{figure_in, pair_at}
use Rattle.certificate.proofs.Coefficients.{halved_step}
use Rattle.certificate.proofs.halving.+halved_figure.Goals as goal

pub returns-then-depth-eq0 : goal.returns-then-depth-eq0
unfolding halved_figure
returns-then-depth-eq0 t c = rw (c.if-depth-eq0.true, c.six_figure-own.ensures)

pub returns : goal.returns
returns t c =
    let a = c.args in
    let h = c.halve-h in
    halved_step a.depth (pair_at a.b) (pair_at h.result.left) (pair_at h.result.right) (figure_in c.six_figure-own.result)
    (figure_in c.halved_figure-f.result) (figure_in c.halved_figure-g.result) (figure_in c.larger.result) (figure_in c.smaller.result)
    c.if-depth-eq0.false c.six_figure-own.ensures h.ensures.0 h.ensures.1 c.halved_figure-f.ensures c.halved_figure-g.ensures
    c.larger.ensures c.smaller.ensures
