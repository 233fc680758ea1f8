-- A break more.
use Rattle.std.proofs.Common.{arith, ◌≡◌, ◌+◌, ℕ, true, refl, ap, length, set, ◌∙◌}
use Rattle.window.specs.Rows.{join, list_of, written}
use Rattle.curve.proofs.Putting.{put_none, put_step}
use Rattle.return_lane.specs.Return.{return_break, return_breaks}
use Rattle.return_lane.proofs.breaks.put_breaks.Goals as goal

pub loop-i-init : goal.loop-i-init
unfolding join
loop-i-init c = (refl, put_none true 0 _)

pub loop-i-preserved : goal.loop-i-preserved
loop-i-preserved c =
    let a = c.args in
    let place : c.loop-i.i ≡ 0 + c.loop-i.i = omega arith in
    put_step true 0 c.loop-i.i (length a.breaks.now) (return_break a.breaks.now) a.cells.now c.loop-i.cells _ _ c.loop-i-test.true
    (λ t. omega (arith, c.requires)) c.loop-i.invariant.1 (ap (λ (k : ℕ). set c.loop-i.cells k c.break_at.result) place) c.break_at.ensures

pub returns : goal.returns
unfolding return_breaks
returns c =
    let a = c.args in
    let e : c.loop-i.i ≡ length a.breaks.now = omega arith in
    c.loop-i.invariant.1 ∙ ap (λ (n : ℕ). written 0 (list_of n (return_break a.breaks.now)) a.cells.now) e
