-- The first segment of which a control is turned away, or none.
use Rattle.std.proofs.Common.{arith, ◌≡◌, refl, sym, ap, not, ◌∙◌}
use Rattle.arith.specs.First.{first_of}
use Rattle.arith.proofs.Firsts.{first_next, every_all, every_not}
use Rattle.heights.specs.Controls.{segment_fits, controls_on}
use Rattle.heights.specs.Sets.{set_with}
use Rattle.heights.proofs.Filled.{away_told}
use Rattle.heights.proofs.entry.all_fit.Goals as goal

pub loop-i-init : goal.loop-i-init
unfolding first_of
loop-i-init c = refl

pub returns-then-is_none : goal.returns-then-is_none
returns-then-is_none c =
    let l = c.loop-i in
    let a = c.args in
    let x = set_with a.breaks.now a.coefficients.now a.n a.m a.at in
    sym (every_not (segment_fits x) a.n l.i c.loop-i-test.true l.invariant
    (ap not (away_told (controls_on x l.i) _ _ c.on_segment.ensures c.is_none.ensures ∙ c.if-is_none.true)))

pub loop-i-preserved : goal.loop-i-preserved
loop-i-preserved c =
    let l = c.loop-i in
    let a = c.args in
    let x = set_with a.breaks.now a.coefficients.now a.n a.m a.at in
    first_next (λ j. not (segment_fits x j)) l.i l.invariant
    (ap (λ t. not (not t)) (away_told (controls_on x l.i) _ _ c.on_segment.ensures c.is_none.ensures ∙ c.if-is_none.false))

pub returns : goal.returns
returns c =
    let a = c.args in
    let x = set_with a.breaks.now a.coefficients.now a.n a.m a.at in
    let e : c.loop-i.i ≡ a.n = omega arith in
    sym (every_all (segment_fits x) a.n (rw e at c.loop-i.invariant))
