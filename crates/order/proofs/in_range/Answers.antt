-- The first pair that is out of range, or none.
use Rattle.std.proofs.Common.{arith, ◌≡◌, refl, sym, not, length}
use borrow.Author.Tests.{lt-ltb, le-ltb}
use mathlib.Core.Bool.{and-false}
use lib.Dec.{ltb}
use Rattle.arith.specs.First.{first_of}
use Rattle.arith.proofs.Firsts.{first_next, every_all, every_not}
use Rattle.order.specs.Pairs.{before_of, after_of}
use Rattle.order.proofs.Promises.{pair_fits}
use Rattle.order.proofs.in_range.Goals as goal
use Rattle.order.proofs.in_range.Goals.{then-lanes-pair-via-then-lanes-pair, then-lanes-pair-via-else-lanes-pair+then-lanes-pair-2}

pub loop-pair-init : goal.loop-pair-init
unfolding first_of
loop-pair-init c = refl

pub returns-then-lanes-pair : goal.returns-then-lanes-pair
returns-then-lanes-pair c =
    let i = c.loop-pair.pair-index in
    let p = c.args.pairs.now in
    let n = c.args.lanes in
    elim c.then-lanes-pair.branch [
      | then-lanes-pair-via-then-lanes-pair w ↦
          sym (every_not (pair_fits p n) (length p) i c.loop-pair-test.true c.loop-pair.invariant
          (rw (le-ltb (before_of p i) n w.if-lanes-pair.true)))
      | then-lanes-pair-via-else-lanes-pair+then-lanes-pair-2 w ↦
          sym (every_not (pair_fits p n) (length p) i c.loop-pair-test.true c.loop-pair.invariant
          (rw (le-ltb (after_of p i) n w.if-lanes-pair-2.true) (and-false (ltb (before_of p i) n))))
    ]

pub loop-pair-preserved : goal.loop-pair-preserved
loop-pair-preserved c =
    let i = c.loop-pair.pair-index in
    let p = c.args.pairs.now in
    let n = c.args.lanes in
    first_next (λ j. not (pair_fits p n j)) i c.loop-pair.invariant
    (rw (lt-ltb (before_of p i) n c.if-lanes-pair.false, lt-ltb (after_of p i) n c.if-lanes-pair-2.false))

pub returns : goal.returns
returns c =
    let p = c.args.pairs.now in
    let e : c.loop-pair.pair-index ≡ length p = omega arith in
    sym (every_all (pair_fits p c.args.lanes) (length p) (rw e at c.loop-pair.invariant))
