use Rattle.std.proofs.Common.{◌≡◌, ℕ, ◌+◌, ◌-◌, ◌*◌, ◌≤◌, ◌<◌, List, refl, sym, ap, ◌∙◌, arith}
use lib.Ieee.{Float}
use Rattle.arith.proofs.Loops.{each_done, each_next}
use Rattle.window.specs.Window.{window, splice}
use Rattle.window.proofs.Windows.{length_window, window_at, splice_window}
use Rattle.normal.specs.System.{size_of}
use Rattle.fit.specs.Region.{system_at}
use Rattle.fit.specs.Fit.{added_to}
use Rattle.fit.proofs.Solution.{controls_added, others_kept}
use native.Mathlib.Nat.{mul-le-mul_right}
use Rattle.fit.proofs.window_fit.add_solution.Goals as goal

-- the active controls are among the controls
inside : (a z m d : ℕ) → a ≤ z → z ≤ m → a * d + (z - a) * d ≤ m * d
inside a z m d h g =
    let e : z * d ≤ m * d = mul-le-mul_right d g in
    let s : z ≡ a + (z - a) = omega arith in
    omega (arith, e, ap (λ (t : ℕ). t * d) s)

pub loop-i-init : goal.loop-i-init
unfolding added_to
loop-i-init c =
    let a = c.args in
    record { controls_only = sym (splice_window a.p.controls (a.p.controls + a.p.count * a.p.axes) a.work.now); left = refl }

pub overflow_mul-a : goal.overflow_mul-a
overflow_mul-a c =
    let a = c.args in
    omega (arith, inside a.a a.z a.p.count a.p.axes (omega arith) (omega arith))

pub overflow_add-a : goal.overflow_add-a
overflow_add-a c =
    let a = c.args in
    omega (arith, inside a.a a.z a.p.count a.p.axes (omega arith) (omega arith))

pub add_cell-requires : goal.add_cell-requires
add_cell-requires c =
    let a = c.args in
    let i = inside a.a a.z a.p.count a.p.axes (omega arith) (omega arith) in
    let k = length_window a.p.controls (a.p.controls + a.p.count * a.p.axes) c.loop-i.work (omega arith) (omega arith) in
    omega (arith, i, k)

pub loop-i-preserved : goal.loop-i-preserved
loop-i-preserved c =
    let a = c.args in
    let p = a.p in
    let n = a.z - a.a in
    let d = p.axes in
    let e = p.controls + p.count * d in
    let right = p.system + 6 * n in
    let l = c.loop-i in
    let go : l.i < n * d = omega arith in
    let kept = others_kept p.controls e right (n * d) l.work a.work.now (omega arith) (omega arith) (omega arith) l.auto.work
    l.invariant.controls_only (a.a * d) l.i go in
    let added = controls_added p.controls e right (n * d) l.work a.work.now (omega arith) (omega arith) (omega arith) l.auto.work
    l.invariant.controls_only (a.a * d) l.i go in
    record {
      controls_only = rw c.add_cell.ensures kept;
      left = rw c.add_cell.ensures (each_next _ _ _ go added l.invariant.left);
    }

pub returns : goal.returns
returns c =
    let a = c.args in
    let p = a.p in
    let w = a.work.now in
    let n = a.z - a.a in
    let d = p.axes in
    let e = p.controls + p.count * d in
    let right = p.system + 6 * n in
    let l = c.loop-i in
    let solution = window_at p.system (p.system + size_of n d) (6 * n) (6 * n + n * d) right (right + n * d) w (omega arith)
    (omega arith) (omega arith) (omega arith) in
    let controls = window_at 0 p.system p.controls e p.controls e w (omega arith) (omega arith) (omega arith) (omega arith) in
    l.invariant.controls_only
    ∙ ap (λ (v : List Float). splice p.controls e v w)
    (sym (each_done _ _ _ _ (omega arith))
    ∙ l.invariant.left
    ∙ ap (λ (v : List Float). added_to v (a.a * d) (n * d) (window p.controls e w)) solution
    ∙ ap (added_to (system_at p n w).right (a.a * d) (n * d)) controls)
