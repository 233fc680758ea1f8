use Rattle.std.proofs.Common.{◌∙◌, ap, sym}
use Rattle.figure.specs.Figure.{larger}
use Rattle.estimate.specs.Structs.{intersection_of}
use Rattle.certificate.specs.Structs.{figure_in}
use Rattle.certificate.proofs.Skipped.{none_own, skipped}
use Rattle.certificate.proofs.halving.with_computed.Goals as goal

pub returns-in_err-so_far : goal.returns-in_err-so_far
unfolding larger
returns-in_err-so_far c = rw (c.from_residual.ensures, c.in_err-so_far.was)

pub returns-in_err-own : goal.returns-in_err-own
returns-in_err-own c = let a = c.args in
    rw c.from_residual-in_err-own.ensures
    (none_own a.depth (intersection_of a.x) (figure_in a.so_far) (sym (ap figure_in c.in_err-own.was) ∙ c.own_figure-own.ensures))

pub returns : goal.returns
returns c = let a = c.args in
    rw c.in_ok-so_far.was
    (skipped a.depth (intersection_of a.x) _ _ (sym (ap figure_in c.in_ok-own.was) ∙ c.own_figure-own.ensures) c.if-branch.false)
