-- `search::quarter` meets its contract. The invariant: the segment of x is among `size` from `base` on.
use Prim.Native.Nat.{ℕ, ◌*◌, ◌/◌, ◌≤◌, ◌<◌}
use native.Mathlib.Nat.{mul-le-mul_right}
use native.Mathlib.Omega.{arith}
use Rattle.query.proofs.Searching.{Window, narrowed, left_one}
use Rattle.query.proofs.search.quarter.Statement.{statement}
use Rattle.query.proofs.search.quarter.Tie as tie

last : (r : ℕ) → r < 4 → r ≤ 3
last r l = omega arith

abbrev invariant-loop : tie.invariant-loop-size
invariant-loop breaks x base₀ size₀ base size = Window breaks x base size

abbrev decreases-loop : tie.decreases-loop-size
decreases-loop breaks x base₀ size₀ base size = size

loop-holds : tie.Need-loop-size-init invariant-loop decreases-loop
loop-holds c = (omega arith, omega arith, λ h. absurd (omega arith), λ h. absurd (omega arith))

passed-requires : tie.Need-passed-requires invariant-loop decreases-loop
passed-requires c κs = let p = c.requires in
    let l = c.loop-size in (p.0, p.1, omega arith, omega arith, omega (arith, l.invariant.1))

-- the new base lies within the window
based : (c : tie.After-passed invariant-loop decreases-loop) → let l = c.loop-size in
    l.size / 4 * c.passed.result ≤ l.size
based c = let l = c.loop-size in
    let m = mul-le-mul_right (l.size / 4) (last c.passed.result c.passed.ensures.0) in
    omega (arith, m)

mul-base : tie.Need-overflow_mul-base invariant-loop decreases-loop
mul-base c = omega (arith, based c, c.loop-size.invariant.1)

add-base : tie.Need-overflow_add-base invariant-loop decreases-loop
add-base c = omega (arith, based c, c.loop-size.invariant.1)

loop-again : tie.Need-loop-size-preserved invariant-loop decreases-loop
loop-again c = let l = c.loop-size in
    narrowed c.args.breaks.now c.requires.0 c.args.x l.base l.size l.invariant (l.size / 4) c.passed.result (omega arith)
    (omega arith)
    c.passed.ensures

passed-requires-2 : tie.Need-passed-requires-2 invariant-loop decreases-loop
passed-requires-2 c κs = let p = c.requires in
    let l = c.loop-size in (p.0, p.1, omega arith, l.invariant.0, omega (arith, l.invariant.0, l.invariant.1))

add-result : tie.Need-overflow_add-result invariant-loop decreases-loop
add-result c = omega (arith, c.loop-size.invariant.1, c.passed-2.ensures.0)

returns : tie.Need-returns invariant-loop decreases-loop
returns c = let l = c.loop-size in
    left_one c.args.breaks.now c.requires.0 c.args.x l.base l.size l.invariant c.passed-2.result c.passed-2.ensures

pub quarter_spec : {M : Type 1} → statement M
quarter_spec =
    tie.close
    (tie.spec
    invariant-loop
    decreases-loop
    (λ c. omega arith)
    loop-holds
    passed-requires
    mul-base
    add-base
    (λ c. omega arith)
    (λ c. omega arith)
    (λ c. omega arith)
    loop-again
    passed-requires-2
    add-result
    returns)
