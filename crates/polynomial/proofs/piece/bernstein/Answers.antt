-- Each turn adds its share.
use Rattle.std.proofs.Common.{arith, sym, ◌∙◌}
use Rattle.arith.proofs.Loops.{each_done, each_turn}
use Rattle.polynomial.specs.Piece.{add_share, bernstein_of}
use Rattle.polynomial.proofs.piece.bernstein.Goals as goal

pub loop-j-preserved : goal.loop-j-preserved
unfolding add_share
loop-j-preserved c = rw (c.choose-e.ensures, c.choose-c.ensures) (sym (each_turn _ _ _ _ (omega arith)) ∙ c.loop-j.invariant)

pub returns : goal.returns
unfolding bernstein_of
returns c = sym (each_done _ _ _ _ (omega arith)) ∙ c.loop-j.invariant
