use Rattle.std.proofs.Common.{refl, sym, ◌∙◌, arith}
use Rattle.arith.proofs.Loops.{each_next, each_done}
use Rattle.normal.specs.Add.{term_of, value_of}
use lib.Ieee.{Float}
use Rattle.normal.proofs.value.Goals as goal

pub loop-j-init : goal.loop-j-init
unfolding value_of lib.Ieee.of_bits lib.Ieee.neg
loop-j-init c = refl

pub loop-j-preserved : goal.loop-j-preserved
unfolding term_of
loop-j-preserved c =
    each_next _ _ _ (omega arith) refl c.loop-j.invariant

pub returns : goal.returns
returns c = sym (each_done _ _ _ _ (omega arith)) ∙ c.loop-j.invariant
