-- By cases on whether axis a is listed.
use Rattle.std.proofs.Common.{ℕ, ◌≤◌, ◌<◌, ◌+◌, refl, sym, ap, ◌∙◌, arith}
use lib.ListN.{length-set}
use Rattle.curve.specs.Places.{position_of, others_below}
use Rattle.curve.proofs.Placing.{listed_place, listed_next, other_place, other_next, place_next}
use Rattle.query.proofs.places.find_places.Goals as goal
use Rattle.query.proofs.places.find_places.Goals.{then-i-k, else-i-k}

pub loop-a-init : goal.loop-a-init
unfolding others_below
loop-a-init c = (refl, refl, omega arith, λ b h. absurd (omega arith))

pub loop-a-preserved : goal.loop-a-preserved
loop-a-preserved c = let l = c.loop-a in
    let g = c.args in
    let p = c.position-i.ensures in
    elim c.if-i-k.branch [
      | then-i-k w ↦
          let h : position_of g.axes.now g.k l.a < g.k = omega (arith, w.if-i-k.true) in (
            rw w.at-is (simp length-set l.invariant.0),
            w.others-is ∙ l.invariant.1 ∙ sym (listed_next g.axes.now g.k l.a h),
            omega (arith, w.others-is),
            rw w.at-is (place_next g.axes.now g.k l.at l.a c.position-i.result (omega arith)
                (p ∙ sym (listed_place g.axes.now g.k l.a h)) l.invariant.3),
          )
      | else-i-k w ↦
          let h : g.k ≤ position_of g.axes.now g.k l.a = omega (arith, w.if-i-k.false) in (
            rw w.at-is (simp length-set l.invariant.0),
            w.others-is ∙ ap (λ (n : ℕ). n + 1) l.invariant.1 ∙ sym (other_next g.axes.now g.k l.a h),
            omega (arith, w.others-is),
            rw w.at-is (place_next g.axes.now g.k l.at l.a (g.k + l.others) (omega arith)
                (ap (λ (n : ℕ). g.k + n) l.invariant.1 ∙ sym (other_place g.axes.now g.k l.a h)) l.invariant.3),
          )
    ]
