-- Each of the six is its definition.
use Rattle.std.proofs.Common.{rules, tests}
use Rattle.arith.specs.Operations.{floats}
use Rattle.polynomial.specs.Piece.{bernstein_of, bernstein_coefficients}
use Rattle.polynomial.proofs.Six.{made}
use Rattle.polynomial.proofs.piece.bernsteins.Goals as goal

pub returns : goal.returns
unfolding bernstein_coefficients
returns c = made _ (bernstein_of floats c.args.powers) _ _ (λ i y q k. search (rules, tests)) 6 c.from_fn.ensures.items
