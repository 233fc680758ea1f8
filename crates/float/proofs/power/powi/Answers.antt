use Rattle.std.proofs.Common.{refl, ◌∙◌, arith}
use Rattle.float.specs.Power.{power_of}
use Rattle.float.proofs.Halving.{turn, odd_digit, even_digit, finish}
use Rattle.float.proofs.power.powi.Goals as goal
use Rattle.float.proofs.power.powi.Goals.{then-left-eq1, else-left-eq1}

pub loop-left-init : goal.loop-left-init
unfolding power_of
loop-left-init c = (32, omega arith, refl)

pub loop-left-preserved : goal.loop-left-preserved
loop-left-preserved c =
    let l = c.loop-left in
    turn c.args.x c.args.n l.result l.base l.left c.if-left-eq1.result (omega arith)
    (elim c.if-left-eq1.branch [
      | then-left-eq1 w ↦ w.result-is ∙ odd_digit l.left l.result l.base w.if-left-eq1.true
      | else-left-eq1 w ↦ w.result-is ∙ even_digit l.left l.result l.base w.if-left-eq1.false
    ])
    l.invariant

pub returns : goal.returns
returns c =
    let l = c.loop-left in
    finish c.args.x c.args.n l.result l.base l.left (omega arith) l.invariant
