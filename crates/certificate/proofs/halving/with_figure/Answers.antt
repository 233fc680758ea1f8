use Rattle.std.proofs.Common.{sym}
use Rattle.figure.specs.Figure.{larger}
use Rattle.estimate.specs.Structs.{intersection_of}
use Rattle.certificate.proofs.Skipped.{skipped}
use Rattle.certificate.proofs.halving.with_figure.Goals as goal

pub returns-in_err-so_far : goal.returns-in_err-so_far
unfolding larger
returns-in_err-so_far c = rw (c.from_residual.ensures, c.in_err-so_far.was)

pub returns-then-not_above : goal.returns-then-not_above
returns-then-not_above c = let a = c.args in
    let n = c.not_above.ensures c.if-not_above.true in
    rw c.in_ok-so_far.was (skipped a.depth (intersection_of a.x) _ _ (sym n.is) n.not_above)
