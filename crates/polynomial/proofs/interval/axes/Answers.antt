-- A turn of the definition, by its test; and what the turns left give.
use Rattle.std.proofs.Common.{arith, refl, sym, ap, ◌∙◌, ◌≡◌, ◌+◌, ℕ, List, true, false, set}
use Rattle.std.proofs.Common.{Err}
use lib.ListN.{length-set}
use lib.Ieee.{Float}
use Rattle.arith.specs.Loop.{each}
use Rattle.arith.specs.Loop.Step.{next, stop}
use Rattle.arith.proofs.Loops.{till_done, till_next, till_stop}
use Rattle.window.specs.Cells.{at}
use Rattle.polynomial.specs.declared.piece.Piece.{Piece}
use Rattle.polynomial.specs.declared.piece.Largest.{Largest}
use Rattle.polynomial.specs.declared.interval.Unaudited.TheVariants.{NotFinite}
use Rattle.polynomial.specs.Interval.{Found, errors_on, all_finite, largest_turn, powers_at, axis_turn, axes_of}
use Rattle.polynomial.proofs.interval.axes.Goals as goal

-- it goes on where all coefficients are finite, and ends the loop where one is not
module _ (coefficients y : List Float) (d first row : ℕ) (q : Piece) (axis : ℕ) (f : Found) (b : List Float)
    (is : b ≡ errors_on (powers_at coefficients first axis) (at y (row + axis)) (at y (row + d + axis)) q) where
  goes_on : (l : Largest) → all_finite b ≡ true → l ≡ each (largest_turn b q.middle) 0 6
      (record { bound = at f.bounds axis; peak = f.peak; witness = f.witness })
      → axis_turn coefficients y d first row q axis f ≡ next
      (record { bounds = set f.bounds axis l.bound; peak = l.peak; witness = l.witness; outcome = f.outcome })
  unfolding axis_turn
  goes_on l g e = rw (← is, g, ← e)

  stops : all_finite b ≡ false → axis_turn coefficients y d first row q axis f
      ≡ stop (record { bounds = f.bounds; peak = f.peak; witness = f.witness; outcome = Err NotFinite })
  unfolding axis_turn
  stops g = rw (← is, g)

pub loop-axis-init : goal.loop-axis-init
unfolding axes_of
loop-axis-init c = (omega arith, refl)

pub returns-then-not-all_finite : goal.returns-then-not-all_finite
unfolding axes_of
returns-then-not-all_finite c =
    let l = c.loop-axis in
    let a = c.args in
    let bad = sym c.all_finite.ensures ∙ c.if-not-all_finite.true in
    let e = stops a.coefficients.now a.y.now a.d a.first a.row a.q l.axis _ _ c.error_form-b.ensures bad in
    let r = sym (till_stop _ _ _ _ _ _ (omega arith) e) ∙ l.invariant.1 in
    (ap (λ (f : Found). f.bounds) r, ap (λ (f : Found). f.outcome) r)

pub loop-axis-preserved : goal.loop-axis-preserved
loop-axis-preserved c =
    let l = c.loop-axis in
    let a = c.args in
    let good = sym c.all_finite.ensures ∙ c.if-not-all_finite.false in
    let e = goes_on a.coefficients.now a.y.now a.d a.first a.row a.q l.axis _ _ c.error_form-b.ensures _ good c.take_in-l.ensures in
    (simp length-set l.invariant.0, sym (till_next _ _ _ _ _ _ (omega arith) e) ∙ l.invariant.1)

pub returns : goal.returns
returns c = sym (till_done _ _ _ _ _ (omega arith)) ∙ c.loop-axis.invariant.1
