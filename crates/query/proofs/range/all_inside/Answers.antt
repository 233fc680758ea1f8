use Rattle.std.proofs.Common.{◌≡◌, length, sym, ◌∙◌, arith}
use Rattle.std.specs.Float.Ieee.{le}
use native.Mathlib.Nat.{mul-le-mul_right}
use Rattle.arith.proofs.Truth.{and_parts}
use Rattle.window.specs.Cells.{at}
use Rattle.arith.proofs.Firsts.{every_at}
use Rattle.curve.proofs.Counting.{counted_none, counted_next, both}
use Rattle.query.proofs.Standing.{inside_within}
use Rattle.query.proofs.range.all_inside.Invariants.{inside_at}
use Rattle.query.proofs.range.all_inside.Goals as goal

pub loop-i-init : goal.loop-i-init
loop-i-init c = let a = c.args in counted_none (inside_at a.xs.now a.curve.start a.curve.end)

pub overflow_add-inside : goal.overflow_add-inside
overflow_add-inside c = let m = mul-le-mul_right c.one_if-in-loop-i.result c.one_if.ensures.1 in
    omega (arith, m, c.one_if-in-loop-i.ensures.1, c.loop-i.invariant.0)

pub loop-i-preserved : goal.loop-i-preserved
loop-i-preserved c = let l = c.loop-i in
    let a = c.args in
    let x = at a.xs.now l.i in
    rw (c.one_if.ensures.0, c.one_if-in-loop-i.ensures.0, both (le a.curve.start x) (le x a.curve.end))
    (counted_next (inside_at a.xs.now a.curve.start a.curve.end) l.i l.inside l.invariant)

pub returns : goal.returns
returns c = λ h i l.
    let a = c.args in
    let e : c.loop-i.i ≡ length a.xs.now = omega arith in
    let k = rw e at c.loop-i.invariant.1 in
    let p = and_parts (le a.curve.start (at a.xs.now i)) (le (at a.xs.now i) a.curve.end)
    (every_at (inside_at a.xs.now a.curve.start a.curve.end) (length a.xs.now) (sym k ∙ h) i l) in
    inside_within a.curve (at a.xs.now i) p.0 p.1
