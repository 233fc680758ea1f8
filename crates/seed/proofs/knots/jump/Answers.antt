use Rattle.std.proofs.Common.{refl, sym, ◌∙◌, arith}
use Rattle.arith.proofs.Loops.{each_done, each_turn}
use Rattle.seed.specs.Knots.{jump_turn, jump_of}
use Rattle.seed.proofs.knots.jump.Goals as goal

pub loop-j-init : goal.loop-j-init
unfolding jump_of
loop-j-init c = refl

pub loop-j-preserved : goal.loop-j-preserved
unfolding jump_turn
loop-j-preserved c =
    rw (c.max-jump.ensures, c.abs.ensures, c.slope-before.ensures, c.slope-after.ensures)
    (sym (each_turn _ _ _ _ (omega arith)) ∙ c.loop-j.invariant)

pub returns : goal.returns
returns c = sym (each_done _ _ _ _ (omega arith)) ∙ c.loop-j.invariant
