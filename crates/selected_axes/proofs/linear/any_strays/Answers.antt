-- `linear::any_strays` meets its contract.
use mathlib.Core.Path.{◌≡◌, refl, sym, ap, ◌∙◌}
use Prim.Native.Nat.{ℕ}
use native.Mathlib.Omega.{arith}
use Rattle.request.specs.Any.{any}
use Rattle.request.proofs.Anys.{any_next, any_found}
use Rattle.smoothing.specs.Start.{curved}
use Rattle.selected_axes.specs.First.{task_over, strayed}
use Rattle.selected_axes.proofs.linear.any_strays.Goals as goal

pub loop-i-init : goal.loop-i-init
unfolding any
loop-i-init c = refl

pub returns-then-strays : goal.returns-then-strays
unfolding curved
returns-then-strays c =
    let a = c.args in
    sym (any_found (strayed (task_over a.n a.d a.s.now a.y.now)) a.n c.loop-i.i (omega arith)
    (sym c.strays.ensures ∙ c.if-strays.true))

pub loop-i-preserved : goal.loop-i-preserved
loop-i-preserved c =
    let a = c.args in
    any_next (strayed (task_over a.n a.d a.s.now a.y.now)) c.loop-i.i c.loop-i.invariant
    (sym c.strays.ensures ∙ c.if-strays.false)

pub returns : goal.returns
unfolding curved
returns c =
    let a = c.args in
    let l = c.loop-i in
    let e : l.i ≡ a.n = omega arith in
    sym (ap (λ (k : ℕ). any k (strayed (task_over a.n a.d a.s.now a.y.now))) (sym e) ∙ l.invariant)
