use Rattle.std.proofs.Common.{◌≡◌, true, false, not, List, map, refl, ap, subst, ◌∙◌, arith}
use lib.IntN.{ℤ}
use lib.ListN.{length-map}
use Rattle.arith.specs.First.{first_of}
use Rattle.arith.proofs.Firsts.{every_all, every_not}
use Rattle.lane_file.specs.Curves.{number_of}
use Rattle.heights.specs.Height.{height_of}
use Rattle.heights.specs.Controls.{segment_fits, all_fit}
use Rattle.heights.specs.Sets.{set_with}
use Rattle.heights.proofs.Placed.{segment_inside}
use Rattle.lane_totals.specs.Lanes.{lane_over, step_totals}
use Rattle.lane_totals.proofs.Keeping.{Gathered, gathered_next, kept_wider, kept_small}
use Rattle.lane_totals.proofs.segments.all_segments.Goals as goal

pub loop-i-init : goal.loop-i-init
unfolding first_of lane_over
loop-i-init c = record { upto = refl; there = c.one_lane-all.ensures.0; kept = c.one_lane-all.ensures.1 }

pub controls_on-requires : goal.controls_on-requires
controls_on-requires c =
    let a = c.args in
    let b = a.coefficients.now in
    let h = segment_inside a.n a.m a.at c.loop-i.i a.breaks.now (map number_of b) c.requires.0 (omega arith) in
    (h.0, omega (arith, h.1, length-map b number_of))

pub returns-in_default : goal.returns-in_default
returns-in_default c =
    let a = c.args in
    let l = c.loop-i in
    let set = set_with a.breaks.now (map number_of a.coefficients.now) a.n a.m a.at in
    let e : all_fit set ≡ false = every_not (segment_fits set) a.n l.i (omega arith) l.invariant.upto (ap not c.in_default.ensures) in (
      rw e c.one_away.ensures.0,
      kept_wider 1 0 20000 _ (omega arith) c.one_away.ensures.1,
    )

pub steps-one-requires : goal.steps-one-requires
steps-one-requires c = (c.requires.1, c.in-Some.ensures.2)

pub merged-all-requires : goal.merged-all-requires
merged-all-requires c =
    let l = c.loop-i in (
      kept_small 1 l.i l.all (omega arith) (omega (arith, c.requires.0.2)) l.invariant.kept,
      kept_small 0 1 c.steps-one.result (omega arith) (omega arith) c.steps-one.ensures.1,
    )

pub loop-i-preserved : goal.loop-i-preserved
loop-i-preserved c =
    let a = c.args in
    let l = c.loop-i in
    let set = set_with a.breaks.now (map number_of a.coefficients.now) a.n a.m a.at in
    let h = c.in-Some.ensures in
    gathered_next set l.all c.steps-one.result c.merged-all.result l.i l.invariant h.0
    (c.steps-one.ensures.0 ∙ ap (λ (w : List ℤ). step_totals 256 (height_of w)) h.1)
    c.steps-one.ensures.1 c.merged-all.ensures

pub returns : goal.returns
returns c =
    let a = c.args in
    let l = c.loop-i in
    let set = set_with a.breaks.now (map number_of a.coefficients.now) a.n a.m a.at in
    let e : l.i ≡ a.n = omega arith in
    let g : Gathered set l.all a.n = subst (Gathered set l.all) e l.invariant in
    let f : all_fit set ≡ true = every_all (segment_fits set) a.n g.upto in
    (rw f g.there, kept_wider 1 a.n 20000 _ c.requires.0.2 g.kept)
