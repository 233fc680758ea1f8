-- An axis that is not listed counts.
use Rattle.std.proofs.Common.{arith, ◌≡◌, ◌+◌, refl, ap, sym, ◌∙◌}
use Rattle.curve.specs.Places.{others_below}
use Rattle.curve.proofs.Placing.{listed_place, listed_next, other_place, other_next}
use Rattle.curve.proofs.place.axis_place.Goals as goal
use Rattle.curve.proofs.place.axis_place.Goals.{then-k-position, else-k-position}

pub returns-then-listed-k : goal.returns-then-listed-k
returns-then-listed-k c =
    let e = c.position-listed.ensures in
    e ∙ sym (listed_place c.args.axes.now c.args.k c.args.axis (omega (arith, e, c.if-listed-k.true)))

pub loop-a-init : goal.loop-a-init
unfolding others_below
loop-a-init c = (omega arith, refl)

pub loop-a-preserved : goal.loop-a-preserved
loop-a-preserved c =
    let l = c.loop-a in
    let p = c.position.ensures in
    elim c.if-k-position.branch [
      | then-k-position w ↦
          let n = other_next c.args.axes.now c.args.k l.a (omega (arith, p, w.if-k-position.true)) in
          (omega arith, omega arith)
      | else-k-position w ↦
          let n = listed_next c.args.axes.now c.args.k l.a (omega (arith, p, w.if-k-position.false)) in
          (omega arith, omega arith)
    ]

pub returns : goal.returns
returns c =
    let l = c.loop-a in
    let e = c.position-listed.ensures in
    let q : l.a ≡ c.args.axis = omega arith in
    ap (λ n. c.args.k + n) (l.invariant.1 ∙ ap (others_below c.args.axes.now c.args.k) q)
    ∙ sym (other_place c.args.axes.now c.args.k c.args.axis (omega (arith, e, c.if-listed-k.false)))
