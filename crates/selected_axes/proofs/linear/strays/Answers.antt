-- `linear::strays` meets its contract.
use mathlib.Core.Path.{◌≡◌, refl, sym, ap, ◌∙◌}
use mathlib.Core.Bool.{Bool, true, false, not}
use Prim.Native.Nat.{ℕ, ◌-◌}
use native.Mathlib.Omega.{arith}
use lib.Ieee.{Float, le, of_bits, round}
use Rattle.arith.specs.Operations.{floats}
use Rattle.arith.proofs.Rows.{row_end}
use Rattle.request.specs.Any.{any}
use Rattle.request.proofs.Anys.{any_next, any_found}
use Rattle.smoothing.specs.Rows.{Task}
use Rattle.smoothing.specs.Start.{chord_error}
use Rattle.selected_axes.specs.First.{task_over}
use Rattle.selected_axes.proofs.linear.strays.Invariants.{test}
use Rattle.selected_axes.proofs.linear.strays.Goals as goal

-- the test of a difference that is computed
tested : (q : Task) (i a : ℕ) (x : Float) (b : Bool) → x ≡ chord_error q i a → not (le x (floats.literal 95 100)) ≡ b → test q i a ≡ b
tested q i a x b e h = ap (λ (v : Float). not (le v (floats.literal 95 100))) (sym e) ∙ h

pub loop-a-init : goal.loop-a-init
unfolding any
loop-a-init c = (
  row_end c.args.i c.args.n c.args.d _ c.requires.0 c.requires.2,
  row_end (c.args.n - 1) c.args.n c.args.d _ (omega arith) c.requires.2,
  refl,
)

pub returns-then-not-abs : goal.returns-then-not-abs
unfolding chord_error of_bits round
returns-then-not-abs c =
    let a = c.args in
    let l = c.loop-a in
    let q = task_over a.n a.d a.s.now a.y.now in
    sym (any_found (test q a.i) a.d l.a (omega arith)
    (tested q a.i l.a c.abs.result true c.abs.ensures c.if-not-abs.true-raw))

pub loop-a-preserved : goal.loop-a-preserved
unfolding chord_error of_bits round
loop-a-preserved c =
    let a = c.args in
    let l = c.loop-a in
    let q = task_over a.n a.d a.s.now a.y.now in (
      l.invariant.0,
      l.invariant.1,
      any_next (test q a.i) l.a l.invariant.2
          (tested q a.i l.a c.abs.result false c.abs.ensures c.if-not-abs.false-raw),
    )
