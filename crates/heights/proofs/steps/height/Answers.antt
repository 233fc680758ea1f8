-- A control more.
use Rattle.std.proofs.Common.{arith, ◌≡◌, ◌+◌, ℕ, List, refl, ap, ◌∙◌}
use Rattle.heights.proofs.Sums.{lifted_sum, sum_fits, index_fits, product_fits, sum_room, sum_next, lifted_height, lifted_small}
use Rattle.heights.proofs.steps.height.Goals as goal

pub loop-k-init : goal.loop-k-init
unfolding lifted_sum
loop-k-init c = refl

pub bounds-weights-j : goal.bounds-weights-j
bounds-weights-j c =
    let a = c.args in
    index_fits a.weights.now a.controls.now a.j c.requires.1 c.requires.0 c.requires.2 c.loop-k.k c.loop-k-test.true

pub overflow_mul-sum-in-loop-k : goal.overflow_mul-sum-in-loop-k
overflow_mul-sum-in-loop-k c =
    let a = c.args in
    omega (arith, product_fits a.weights.now a.controls.now a.j c.requires.1 c.requires.0 c.requires.2 c.loop-k.k c.loop-k-test.true)

pub overflow_add-sum-in-loop-k : goal.overflow_add-sum-in-loop-k
overflow_add-sum-in-loop-k c =
    let a = c.args in
    let l = c.loop-k in
    omega (
      arith,
      sum_room a.weights.now a.controls.now a.j c.requires.1 c.requires.0 c.requires.2 l.k l.sum c.loop-k-test.true l.invariant,
    )

pub loop-k-preserved : goal.loop-k-preserved
loop-k-preserved c =
    let a = c.args in
    let l = c.loop-k in
    sum_next a.weights.now a.controls.now a.j c.requires.1 c.requires.0 c.requires.2 l.k l.sum c.loop-k-test.true l.invariant

-- the sum of all six
whole : (controls : List ℕ) (j k sum : ℕ) → k ≡ 6 → sum ≡ 549755813888 + lifted_sum controls j k → sum ≡ 549755813888 + lifted_sum controls j 6
whole controls j k sum e h = h ∙ ap (λ (n : ℕ). 549755813888 + lifted_sum controls j n) e

pub overflow_sub-result : goal.overflow_sub-result
overflow_sub-result c =
    let l = c.loop-k in
    omega (arith, c.one_below.ensures.1, whole c.args.controls.now c.args.j l.k l.sum (omega arith) l.invariant)

pub returns : goal.returns
returns c =
    let l = c.loop-k in
    let a = c.args in
    let w = whole a.controls.now a.j l.k l.sum (omega arith) l.invariant in (
      lifted_height a.controls.now a.j l.sum c.one_below.result c.requires.0 c.requires.2 w c.one_below.ensures.0,
      lifted_small l.sum c.one_below.result (omega (arith, w, sum_fits a.controls.now a.j c.requires.0 c.requires.2)),
    )
