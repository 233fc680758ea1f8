use Rattle.std.proofs.Common.{ℕ, ◌+◌, ◌-◌, ◌*◌, ◌<◌, ◌≤◌, length, arith}
use native.Mathlib.Nat.{mul-le-mul_right, mul-pos}
use Rattle.query.proofs.Searching.{at_least, above_first, passing_next}
use Rattle.query.proofs.search.passed.Goals as goal

-- the j-th lies among the breaks
within : (base j m step n : ℕ) → j < m → base + (m - 1) * step < n → base + j * step < n
within base j m step n l h = let r = mul-le-mul_right step (let k : j ≤ m - 1 = omega arith in k) in omega arith

pub at_or_below-c-requires : goal.at_or_below-c-requires
at_or_below-c-requires c = let a = c.args in
    let l = c.loop-j in
    (at_least a.breaks.now c.requires.0 (a.base + l.j * a.step) (within _ _ _ _ _ c.loop-j-test.true c.requires.4), c.requires.1)

pub loop-j-preserved : goal.loop-j-preserved
loop-j-preserved c = let a = c.args in
    let l = c.loop-j in
    let e = c.at_or_below-c.ensures in
    let i : a.base + l.j * a.step < length a.breaks.now = within _ _ _ _ _ c.loop-j-test.true c.requires.4 in
    let z : 0 < l.j * a.step = mul-pos (let p : 1 ≤ l.j = omega arith in p) c.requires.2 in
    passing_next a.breaks.now c.requires.0 a.x a.base a.step l.j l.c i l.invariant c.at_or_below-c.result e.0 e.1
    (λ n. e.2 n (above_first a.breaks.now c.requires.0 (a.base + l.j * a.step) (omega (arith, z)) i))
