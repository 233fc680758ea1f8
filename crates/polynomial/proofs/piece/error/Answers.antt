-- The six powers, of which the first two lose the line.
use Rattle.std.proofs.Common.{refl}
use Rattle.polynomial.specs.Piece.{piece_powers, error_of}
use Rattle.polynomial.proofs.piece.error.Goals as goal

pub returns : goal.returns
unfolding error_of piece_powers
returns c = rw c.powers-e.ensures refl
