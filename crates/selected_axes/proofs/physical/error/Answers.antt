-- `physical::error` meets its contract.
use mathlib.Core.Path.{◌≡◌, sym, ap, ◌∙◌}
use Prim.Native.Nat.{ℕ, ◌+◌, ◌-◌}
use native.Mathlib.Omega.{arith}
use Rattle.arith.specs.Loop.{each}
use Rattle.arith.proofs.Loops.{each_done, each_next}
use Rattle.window.specs.Cells.{+0}
use Rattle.smoothing.specs.Finish.{error_of}
use Rattle.selected_axes.proofs.physical.error.Invariants.{turn}
use Rattle.selected_axes.proofs.physical.error.Goals as goal

pub loop-i-init : goal.loop-i-init
unfolding error_of
loop-i-init c =
    let a = c.args in
    let e : a.n ≡ a.n + 1 - 1 = omega arith in
    ap (λ (k : ℕ). each (turn a.bounds.now a.d a.a) 0 k +0) e

pub loop-i-preserved : goal.loop-i-preserved
loop-i-preserved c = each_next _ _ _ (omega arith) c.max-w.ensures c.loop-i.invariant

pub returns : goal.returns
returns c = sym (each_done _ _ _ _ (omega arith)) ∙ c.loop-i.invariant
