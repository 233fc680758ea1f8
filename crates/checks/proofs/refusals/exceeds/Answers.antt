-- `refusals::exceeds` meets its contract.
use mathlib.Core.Path.{◌≡◌, refl, sym, ap, ◌∙◌}
use Prim.Native.Nat.{◌+◌, ◌*◌}
use native.Mathlib.Omega.{arith}
use lib.Ieee.{Float, lt}
use Rattle.fraction.specs.Value.{absolute_float}
use Rattle.window.specs.Cells.{at}
use Rattle.request.specs.Any.{any}
use Rattle.request.proofs.Anys.{any_next, any_found}
use Rattle.smoothing.specs.Checks.{exceeds}
use Rattle.checks.proofs.refusals.exceeds.Goals as goal

pub loop-i-init : goal.loop-i-init
unfolding exceeds any
loop-i-init c = refl

pub returns-then-most-abs : goal.returns-then-most-abs
unfolding exceeds
returns-then-most-abs c =
    let g = c.args in
    let told = ap (λ (x : Float). lt g.most x) (sym c.abs.ensures) ∙ c.if-most-abs.true in
    sym (any_found (λ i. lt g.most (absolute_float (at g.points.now (i * g.d + g.axis)))) g.n c.loop-i.i (omega arith) told)

pub loop-i-preserved : goal.loop-i-preserved
unfolding exceeds
loop-i-preserved c =
    let g = c.args in
    let told = ap (λ (x : Float). lt g.most x) (sym c.abs.ensures) ∙ c.if-most-abs.false in
    any_next (λ i. lt g.most (absolute_float (at g.points.now (i * g.d + g.axis)))) c.loop-i.i c.loop-i.invariant told

pub returns : goal.returns
returns c =
    let e : c.loop-i.i ≡ c.args.n = omega arith in
    sym (rw e at c.loop-i.invariant)
