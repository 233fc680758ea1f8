use Rattle.estimate.proofs.plain.coefficients.Goals as goal

pub returns : goal.returns
returns c = c.bernstein.ensures _ c.difference_powers.ensures
