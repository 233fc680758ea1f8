-- `physical::is_excessive` meets its contract.
use mathlib.Core.Path.{◌≡◌, refl, sym, ap, ◌∙◌}
use Prim.Native.Nat.{ℕ}
use native.Mathlib.Omega.{arith}
use Rattle.request.specs.Any.{any}
use Rattle.request.proofs.Anys.{any_next, any_found}
use Rattle.selected_axes.proofs.Tests.{excessive_is}
use Rattle.selected_axes.proofs.physical.is_excessive.Invariants.{test}
use Rattle.selected_axes.proofs.physical.is_excessive.Goals as goal

pub loop-a-init : goal.loop-a-init
unfolding any
loop-a-init c = refl

pub returns-then-eps-a : goal.returns-then-eps-a
returns-then-eps-a c =
    let a = c.args in
    sym (any_found (test a.eps.now a.errors.now) a.d c.loop-a.a (omega arith) c.if-eps-a.true)
    ∙ excessive_is a.eps.now a.errors.now a.d

pub loop-a-preserved : goal.loop-a-preserved
loop-a-preserved c =
    any_next (test c.args.eps.now c.args.errors.now) c.loop-a.a c.loop-a.invariant c.if-eps-a.false

pub returns : goal.returns
returns c =
    let a = c.args in
    let l = c.loop-a in
    let e : l.a ≡ a.d = omega arith in
    sym (ap (λ (k : ℕ). any k (test a.eps.now a.errors.now)) (sym e) ∙ l.invariant) ∙ excessive_is a.eps.now a.errors.now a.d
