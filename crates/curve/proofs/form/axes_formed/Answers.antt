-- The first axis that is not good, or none.
use Rattle.std.proofs.Common.{arith, ◌≡◌, refl, sym, not, get_or, eqb}
use borrow.Author.Tests.{lt-ltb, le-ltb, eq-eqb, ne_eqb}
use Rattle.curve.specs.Form.{axes_formed}
use Rattle.curve.specs.Places.{position_of}
use Rattle.arith.specs.First.{first_of}
use Rattle.arith.proofs.Firsts.{first_next, first_le, every_all, every_not}
use Rattle.curve.proofs.Placing.{axis_good}
use Rattle.curve.proofs.form.axes_formed.Goals as goal
use Rattle.curve.proofs.form.axes_formed.Goals.{then-d-a-via-then-d-a, then-d-a-via-else-d-a+then-position-i}

pub loop-i-init : goal.loop-i-init
unfolding first_of
loop-i-init c = refl

pub returns-then-d-a : goal.returns-then-d-a
unfolding axes_formed
returns-then-d-a c =
    let l = c.loop-i in
    let a = c.args in
    let x = get_or a.axes.now l.i 0 in
    elim c.then-d-a.branch [
      | then-d-a-via-then-d-a w ↦
          sym (every_not (axis_good a.axes.now a.d) a.k l.i c.loop-i-test.true l.invariant (rw (le-ltb _ _ w.if-d-a.true)))
      | then-d-a-via-else-d-a+then-position-i w ↦
          let p = w.position.ensures in
          sym (every_not (axis_good a.axes.now a.d) a.k l.i c.loop-i-test.true l.invariant
          (rw (lt-ltb _ _ w.if-d-a.false, ne_eqb (position_of a.axes.now l.i x) l.i (λ e. absurd (omega arith)))))
    ]

pub loop-i-preserved : goal.loop-i-preserved
loop-i-preserved c =
    let l = c.loop-i in
    let a = c.args in
    let x = get_or a.axes.now l.i 0 in
    let m = first_le (λ j. eqb (get_or a.axes.now j 0) x) l.i in
    let p = c.position.ensures in
    let e : position_of a.axes.now l.i x ≡ l.i = omega arith in
    first_next (λ j. not (axis_good a.axes.now a.d j)) l.i l.invariant (rw (lt-ltb _ _ c.if-d-a.false, eq-eqb _ _ e))

pub returns : goal.returns
unfolding axes_formed
returns c =
    let a = c.args in
    let e : c.loop-i.i ≡ a.k = omega arith in
    sym (every_all (axis_good a.axes.now a.d) a.k (rw e at c.loop-i.invariant))
