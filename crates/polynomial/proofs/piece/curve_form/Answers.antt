-- `curve_form` is its definition.
use Rattle.std.proofs.Common.{ap, ◌∙◌}
use Rattle.arith.specs.Operations.{floats}
use Rattle.polynomial.specs.Piece.{bernstein_coefficients, curve_form}
use Rattle.polynomial.proofs.piece.curve_form.Goals as goal

pub returns : goal.returns
unfolding curve_form
returns c = c.bernsteins.ensures ∙ ap (bernstein_coefficients floats) c.powers.ensures
