-- Each turn adds its term.
use Rattle.std.proofs.Common.{arith, sym, ◌∙◌}
use Rattle.arith.proofs.Loops.{each_done, each_turn}
use Rattle.polynomial.specs.Piece.{add_term, piece_power}
use Rattle.polynomial.proofs.piece.power.Goals as goal

pub loop-k-preserved : goal.loop-k-preserved
unfolding add_term
loop-k-preserved c = rw (c.powi-q.ensures, c.choose-c.ensures) (sym (each_turn _ _ _ _ (omega arith)) ∙ c.loop-k.invariant)

pub returns : goal.returns
unfolding piece_power
returns c = rw (c.powi.ensures, sym (each_done _ _ _ _ (omega arith)) ∙ c.loop-k.invariant)
