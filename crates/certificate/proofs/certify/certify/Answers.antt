-- The theorem about the answer holds, since the parameters are f64s.
use Rattle.std.proofs.Common.{sym, ◌∙◌}
use Rattle.curve.specs.Form.{slices}
use Rattle.figure.proofs.Certified.{certificate_theorem}
use Rattle.certificate.proofs.certify.certify.Goals as goal

pub returns-clause-certified : goal.returns-clause-certified
returns-clause-certified c = λ F h. let a = c.args in
    certificate_theorem a.curve (slices a.breaks.now a.coefficients.now a.other_breaks.now a.other_coefficients.now) a.points.now a.n
    a.spacing a.parameters.now a.axis a.depth F c.type_inv.parameters (sym c.checked.ensures ∙ h)
