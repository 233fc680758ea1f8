-- A turn is taken where the test of the definition holds.
use Rattle.std.proofs.Common.{arith, length, ◌-◌, refl, sym, ◌∙◌}
use borrow.Author.Tests.{lt-ltb, le-ltb}
use Rattle.arith.proofs.Loops.{whilst_done, whilst_turn}
use Rattle.polynomial.specs.Span.{advanced}
use Rattle.polynomial.proofs.span.advance.Goals as goal

pub loop-k-init : goal.loop-k-init
loop-k-init c = (omega arith, omega arith, (length c.args.breaks.now, omega arith, refl))

pub loop-k-preserved : goal.loop-k-preserved
loop-k-preserved c =
    let w = c.loop-k.invariant.2 in
    let more = c.loop-k-test.true in (
      omega arith,
      omega arith,
      (w.0 - 1, omega arith, sym (whilst_turn _ _ _ _ (omega arith) (rw (lt-ltb _ _ more) c.if-breaks-k.true)) ∙ w.2),
    )

pub returns-else-breaks-k : goal.returns-else-breaks-k
unfolding advanced
returns-else-breaks-k c =
    let l = c.loop-k in
    let more = c.loop-k-test.true in
    (sym (whilst_done _ _ _ _ (rw (lt-ltb _ _ more) c.if-breaks-k.false)) ∙ l.invariant.2.2, omega arith, omega arith)

pub returns-after-loop-k : goal.returns-after-loop-k
unfolding advanced
returns-after-loop-k c =
    (sym (whilst_done _ _ _ _ (rw (le-ltb _ _ c.loop-k-test.false))) ∙ c.loop-k.invariant.2.2, omega arith, omega arith)
