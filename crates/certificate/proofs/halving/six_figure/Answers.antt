use Rattle.std.proofs.Common.{sym, ◌∙◌, refl, arith}
use Rattle.arith.proofs.Loops.{each_done, each_turn}
use Rattle.figure.specs.Figure.{six_figure}
use Rattle.certificate.specs.Structs.{figure_in, pair_at}
use Rattle.certificate.proofs.halving.six_figure.Invariants.{turn}
use Rattle.certificate.proofs.halving.six_figure.Goals as goal

pub loop-k-init : goal.loop-k-init
loop-k-init c = refl

pub loop-k-preserved : goal.loop-k-preserved
loop-k-preserved c = let l = c.loop-k in
    rw (c.larger-f.ensures, c.absolute_end.ensures) (sym (each_turn (turn (pair_at c.args.b)) l.k 6 (figure_in l.f) (omega arith))
    ∙ l.invariant)

pub returns : goal.returns
unfolding six_figure
returns c = let l = c.loop-k in
    sym (each_done (turn (pair_at c.args.b)) l.k 6 (figure_in l.f) (omega arith)) ∙ l.invariant
