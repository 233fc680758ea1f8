use Rattle.std.proofs.Common.{◌≡◌, ◌&&◌, ◌+◌, Bool, true, false, refl, sym, ap, ◌∙◌, arith}
use lib.Ieee.{le, of_bits, round}
use Rattle.arith.specs.Loop.{each}
use Rattle.arith.proofs.Loops.{each_done, each_turn}
use Rattle.seed.specs.Corridor.{corridor, axis_turn, narrowed}
use Rattle.seed.proofs.Narrowing.{turn_cut}
use Rattle.seed.proofs.corridor.narrow.Goals as goal
use Rattle.seed.proofs.corridor.narrow.Goals.{then-between, else-between}

passed : (p q v : Bool) → q ≡ true → v ≡ p → v ≡ (p && q)
passed true q v e f = f ∙ sym e
passed false q v e f = f

failed : (p q v : Bool) → q ≡ false → v ≡ false → v ≡ (p && q)
failed true q v e f = f ∙ sym e
failed false q v e f = f

pub loop-j-init : goal.loop-j-init
unfolding narrowed
loop-j-init c = refl

pub loop-j-preserved : goal.loop-j-preserved
unfolding axis_turn of_bits round
loop-j-preserved c =
    let l = c.loop-j in
    let a = c.args in
    let low = c.max-low.result in
    let slope = c.slope-slope.result in
    let high = c.min-high.result in
    let ok : c.if-between.ok ≡ (l.ok && (le low slope && le slope high)) = elim c.if-between.branch [
      | then-between w ↦ passed l.ok (le low slope && le slope high) _ (sym c.between.ensures ∙ w.if-between.true) w.ok-is
      | else-between w ↦ failed l.ok (le low slope && le slope high) _ (sym c.between.ensures ∙ w.if-between.false)
          (w.ok-is ∙ w.if-between.false)
    ] in
    rw (ok, c.max-low.ensures, c.min-high.ensures, c.slope-slope.ensures)
    (ap (each (axis_turn a.s.now a.y.now a.d a.anchor a.i) (l.j + 1) a.d)
    (sym (turn_cut a.s.now a.y.now a.d a.anchor a.i l.j (corridor l.c.lo l.c.hi l.ok) (omega arith)))
    ∙ sym (each_turn _ _ _ _ (omega arith)) ∙ l.invariant)

pub returns : goal.returns
returns c = sym (each_done _ _ _ _ (omega arith)) ∙ c.loop-j.invariant
