-- A turn of the walk, by its tests; and what the walk from here on gives.
use Rattle.std.proofs.Common.{arith, refl, sym, ap, ◌∙◌, ◌≡◌, ◌+◌, ◌*◌, ℕ, List, true, false, length, Err}
use Rattle.std.proofs.lemmas.Result.{err_from_is_err_and}
use lib.Ieee.{lt, le, Float}
use Rattle.arith.specs.Loop.{Step}
use Rattle.arith.specs.Loop.Step.{next, stop}
use Rattle.arith.proofs.Loops.{till_next, till_stop}
use Rattle.window.specs.Cells.{at, zeros}
use Rattle.float.specs.Order.{min_of}
use Rattle.polynomial.specs.declared.piece.Piece.{Piece}
use Rattle.polynomial.specs.declared.interval.Unaudited.TheVariants.{NotAbove}
use Rattle.polynomial.specs.Span.{advanced}
use Rattle.polynomial.specs.Outcome.{Done, is_done}
use Rattle.polynomial.specs.Interval.{Found, Interval, found, piece_at, axes_of, Walk, ended_by, walk_turn, interval_of}
use Rattle.polynomial.proofs.Walk.{turns_most, turns_fall}
use Rattle.polynomial.proofs.interval.audit_interval.Goals as goal

module _ (breaks coefficients s y : List Float) (d i j : ℕ) (w : Walk) where
  abbrev turn : Step Walk Interval
  turn = walk_turn breaks coefficients s y d i j w

  at-end : lt w.left (at s (i + 1)) ≡ false → turn ≡ stop (ended_by Done w.span w.found)
  unfolding walk_turn
  at-end t = rw t

  module _ (k : ℕ) (right : Float) (more : lt w.left (at s (i + 1)) ≡ true) (ek : k ≡ advanced breaks w.left w.span)
      (er : right ≡ min_of (at s (i + 1)) (at breaks (k + 1))) where
    not_above : le right w.left ≡ true → turn ≡ stop (ended_by (Err NotAbove) k w.found)
    unfolding walk_turn
    not_above g = rw (more, ← ek, ← er, g)

    -- all axes, on the piece q
    module _ {q : Piece} (above : le right w.left ≡ false) (eq : q ≡ piece_at breaks s i k w.left right) where
      abbrev f : Found
      f = axes_of coefficients y d (k * d) (i * d) q w.found

      not_finite : is_done f.outcome ≡ false → turn ≡ stop (ended_by f.outcome k f)
      unfolding walk_turn
      not_finite g = rw (more, ← ek, ← er, above, ← eq, g)

      goes_on : (f' : Found) → f' ≡ f → is_done f'.outcome ≡ true → turn ≡ next (record { left = right; span = k; found = f' })
      unfolding walk_turn
      goes_on f' e g = rw (more, ← ek, ← er, above, ← eq, ← e, g)

pub loop-left-init : goal.loop-left-init
unfolding interval_of
loop-left-init c =
    let a = c.args in
    let most = turns_most a.breaks.now (at a.s.now (a.i + 1)) (at a.s.now a.i) a.span (omega arith) in
    let n : length a.bounds.now ≡ a.d = omega arith in
    let e : c.clear.new.s ≡ zeros a.d = c.clear.ensures ∙ ap zeros n in
    (omega arith, omega arith, (0, omega arith, rw e))

pub returns-then-right-left-clause-ends : goal.returns-then-right-left-clause-ends
unfolding ended_by
returns-then-right-left-clause-ends c =
    let l = c.loop-left in
    let a = c.args in
    let w : Walk = record { left = l.left; span = l.k; found = found l.bounds l.f } in
    let e = not_above a.breaks.now a.coefficients.now a.s.now a.y.now a.d a.i l.invariant.2.0 w _ _
    c.loop-left-test.true c.advance-k.ensures.0 c.min-right.ensures c.if-right-left.true in
    let r = sym (till_stop _ _ _ _ _ _ (omega arith) e) ∙ l.invariant.2.2 in
    (ap (λ (x : Interval). x.bounds) r, ap (λ (x : Interval). x.outcome) r)

pub returns-in_err-f-clause-ends : goal.returns-in_err-f-clause-ends
unfolding ended_by
returns-in_err-f-clause-ends c =
    let l = c.loop-left in
    let a = c.args in
    let p = err_from_is_err_and c.from_residual.result c.from_residual.ensures.1 in
    let v = c.in_err-f.ensures in
    let w : Walk = record { left = l.left; span = l.k; found = found l.bounds l.f } in
    let bad = sym (ap is_done v.1) in
    let e = not_finite a.breaks.now a.coefficients.now a.s.now a.y.now a.d a.i l.invariant.2.0 w _ _
    c.loop-left-test.true c.advance-k.ensures.0 c.min-right.ensures c.if-right-left.false c.place-q.ensures bad in
    let r = sym (till_stop _ _ _ _ _ _ (omega arith) e) ∙ l.invariant.2.2 in
    rw (p.1, p.2) (v.0 ∙ ap (λ (x : Interval). x.bounds) r, v.1 ∙ ap (λ (x : Interval). x.outcome) r)

pub loop-left-smaller : goal.loop-left-smaller
loop-left-smaller c =
    let l = c.loop-left in
    let a = c.args in
    rw c.min-right.ensures
    (turns_fall a.breaks.now _ l.left l.k c.advance-k.result (omega arith) (omega arith) c.loop-left-test.true
    (rw c.min-right.ensures at c.if-right-left.false))

pub loop-left-preserved : goal.loop-left-preserved
loop-left-preserved c =
    let l = c.loop-left in
    let a = c.args in
    let w : Walk = record { left = l.left; span = l.k; found = found l.bounds l.f } in
    let e = goes_on a.breaks.now a.coefficients.now a.s.now a.y.now a.d a.i l.invariant.2.0 w _ _
    c.loop-left-test.true c.advance-k.ensures.0 c.min-right.ensures c.if-right-left.false c.place-q.ensures _ c.in_ok-f.ensures refl in
    let less = loop-left-smaller c in
    (omega arith, omega arith, (l.invariant.2.0 + 1, omega arith, sym (till_next _ _ _ _ _ _ (omega arith) e) ∙ l.invariant.2.2))

pub returns-clause-ends : goal.returns-clause-ends
unfolding ended_by
returns-clause-ends c =
    let l = c.loop-left in
    let a = c.args in
    let w : Walk = record { left = l.left; span = l.k; found = found l.bounds l.f } in
    let e = at-end a.breaks.now a.coefficients.now a.s.now a.y.now a.d a.i l.invariant.2.0 w c.loop-left-test.false in
    sym (till_stop _ _ _ _ _ _ (omega arith) e) ∙ l.invariant.2.2
