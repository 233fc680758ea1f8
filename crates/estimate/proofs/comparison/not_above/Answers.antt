use Rattle.estimate.proofs.Above.{estimated}
use Rattle.estimate.proofs.Measuring.{measured_is, size_number}
use Rattle.estimate.proofs.comparison.not_above.Goals as goal

pub returns : goal.returns
returns c = λ h.
    let t = c.measured.ensures c.if-not-measured.false in
    estimated _ _ (size_number _ t.0) (measured_is _ t.0 t.1 t.2) c.coefficients.result c.coefficients.ensures _
    (rw (c.largest.ensures, c.size_of-cost.ensures) at h)
