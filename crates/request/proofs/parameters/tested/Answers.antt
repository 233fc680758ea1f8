use Rattle.std.proofs.Common.{◌≡◌, ◌-◌, true, false, sym, ap, ◌∙◌, arith}
use lib.Ieee.{binary64, sub}
use lib.Ieee.Scale.{finite}
use Rattle.window.specs.Cells.{at}
use Rattle.request.specs.Parameters.{length_of, parameter_list}
use Rattle.request.proofs.InPlace.{in_place_first, in_place_next, in_place_last, misplaced_first, misplaced_found, test_same}
use Rattle.request.proofs.parameters.tested.Goals as goal

pub returns-then-not-is_finite : goal.returns-then-not-is_finite
returns-then-not-is_finite c =
    let a = c.args in
    let x = at (parameter_list a.spacing a.list.now a.points.now a.d a.n) in
    let e : finite (x 0) ≡ false = ap finite (sym (c.first-start.ensures _ _)) ∙ sym c.is_finite.ensures ∙ c.if-not-is_finite.true in
    misplaced_first x a.n (omega arith) e

pub loop-i-init : goal.loop-i-init
loop-i-init c =
    let a = c.args in
    let x = at (parameter_list a.spacing a.list.now a.points.now a.d a.n) in
    let e : finite (x 0) ≡ true = ap finite (sym (c.first-start.ensures _ _)) ∙ sym c.is_finite.ensures ∙ c.if-not-is_finite.false in
    (c.first-start.ensures _ _, in_place_first x e)

pub following-x-requires : goal.following-x-requires
following-x-requires c =
    record { n_bound = (omega arith, omega arith, omega arith, c.requires.3); current_value = c.loop-i.invariant.0 }

pub returns-then-is_misplaced : goal.returns-then-is_misplaced
returns-then-is_misplaced c =
    let a = c.args in
    let x = at (parameter_list a.spacing a.list.now a.points.now a.d a.n) in
    let l = c.loop-i in
    let t = test_same _ _ _ _ c.following-x.ensures l.invariant.0 c.is_misplaced.ensures in
    misplaced_found x a.n (omega arith) l.i (omega arith) (t ∙ c.if-is_misplaced.true)

pub loop-i-preserved : goal.loop-i-preserved
loop-i-preserved c =
    let a = c.args in
    let x = at (parameter_list a.spacing a.list.now a.points.now a.d a.n) in
    let l = c.loop-i in
    let t = test_same _ _ _ _ c.following-x.ensures l.invariant.0 c.is_misplaced.ensures in
    (c.following-x.ensures, in_place_next x l.i l.invariant.1 (t ∙ c.if-is_misplaced.false))

pub returns : goal.returns
unfolding length_of
returns c =
    let a = c.args in
    let x = at (parameter_list a.spacing a.list.now a.points.now a.d a.n) in
    let l = c.loop-i in
    let e : l.i ≡ a.n - 1 = omega arith in
    let last : l.previous ≡ x (a.n - 1) = rw e at l.invariant.0 in
    let start = c.first-start.ensures a.points.now a.d in
    (in_place_last x a.n (omega arith) l.i e l.invariant.1, λ j. sub binary64 (last j) (start j))
