-- A curve with its four slices, as the code has them.
use Rattle.curve.specs.Form.{Slices, slices}
use Rattle.query.specs.declared.lent.Lent.{Lent}

-- the four slices
abbrev pub slices_of : Lent → Slices
slices_of l = slices l.breaks.now l.coefficients.now l.other_breaks.now l.other_coefficients.now
