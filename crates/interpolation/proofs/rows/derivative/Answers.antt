use Rattle.std.proofs.Common.{get_or, refl, sym, ap, ◌∙◌, arith}
use lib.Ieee.{Float, nan, of_bits, round}
use Rattle.arith.specs.Loop.{each}
use Rattle.arith.proofs.Loops.{each_done, each_next}
use Rattle.arith.specs.Operations.{floats}
use Rattle.window.specs.Cells.{zeros}
use Rattle.bspline.specs.Choose.{factorials}
use Rattle.smoothing.specs.Interpolate.{derivative_of}
use Rattle.interpolation.proofs.rows.derivative.Invariants.{turn}
use Rattle.interpolation.proofs.rows.derivative.Goals as goal

pub loop-i-init : goal.loop-i-init
unfolding derivative_of factorials of_bits round
loop-i-init c =
    let a = c.args in
    let factorial = get_or (factorials floats) a.r nan in
    ap (λ (z : Float). each (turn a.powers a.r factorial z) 0 6 (zeros 6)) c.powi-scale.ensures

pub loop-i-preserved : goal.loop-i-preserved
loop-i-preserved c = each_next _ _ _ (omega arith) refl c.loop-i.invariant

pub returns : goal.returns
returns c = sym (each_done _ _ _ _ (omega arith)) ∙ c.loop-i.invariant
