-- A figure that is given is the one that is certified.
use Rattle.certificate.specs.Outcome.{outcome_of}
use Rattle.pamitoye.proofs.GivenFigure.{given_figure}
use Rattle.pamitoye.proofs.certificates.pamitoye_certify.Goals as goal

pub returns-clause-certified : goal.returns-clause-certified
returns-clause-certified c = λ fine there.
    let f = c.put_figure.ensures in
    let a = c.args in
    let o = outcome_of c.certify-answer.result in
    rw (← c.curve.ensures, ← c.spacing_of.ensures)
    (c.certify-answer.ensures.certified _
    (given_figure o.number o.certified a.given.now a.figure.now f.value f.given_after f.figure_after fine there))
