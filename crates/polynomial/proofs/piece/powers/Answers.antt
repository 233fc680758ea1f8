-- Each of the six is its definition.
use Rattle.std.proofs.Common.{rules, tests}
use Rattle.arith.specs.Operations.{floats}
use Rattle.float.specs.Power.{power_of}
use Rattle.polynomial.specs.Piece.{piece_power, piece_powers}
use Rattle.polynomial.proofs.Six.{made}
use Rattle.polynomial.proofs.piece.powers.Goals as goal

pub returns : goal.returns
unfolding piece_powers
returns c =
    let a = c.args in
    made _ (piece_power floats (power_of floats) a.p.now a.u a.w) _ _ (λ i y q k. search (rules, tests)) 6 c.from_fn.ensures.items
