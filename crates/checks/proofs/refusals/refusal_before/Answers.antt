-- `refusals::refusal_before` meets its contract: by cases on the tests.
use mathlib.Core.Path.{◌≡◌, sym, ◌∙◌}
use mathlib.Core.Bool.{false}
use Prim.Native.Nat.{◌<◌}
use native.Mathlib.Omega.{arith}
use borrow.Author.Tests.{eq-eqb, ne_eqb}
use Rattle.request.proofs.Counts.{waypoint_count}
use Rattle.smoothing.specs.Request.{Lane, axis_count}
use Rattle.smoothing.specs.Checks.{no_axes}
use Rattle.checks.specs.Request.{lane_of}
use Rattle.checks.specs.Checks.{refusal_before}
use Rattle.checks.proofs.refusals.refusal_before.Goals as goal

-- 2 does not hold of some axes
some : (l : Lane) → 0 < axis_count l → no_axes l ≡ false
unfolding no_axes
some l h = ne_eqb (axis_count l) 0 (λ e. absurd (omega arith))

pub returns-then-unfit : goal.returns-then-unfit
unfolding refusal_before
returns-then-unfit c = rw (sym c.unfit.ensures ∙ c.if-unfit.true)

pub returns-then-k-lt1 : goal.returns-then-k-lt1
unfolding refusal_before no_axes
returns-then-k-lt1 c =
    let n = c.count_of-k.ensures in
    rw (sym c.unfit.ensures ∙ c.if-unfit.false, eq-eqb (axis_count (lane_of c.args.r.now)) 0 (omega arith))

pub returns-then-bad_axes : goal.returns-then-bad_axes
unfolding refusal_before
returns-then-bad_axes c =
    rw (
      sym c.unfit.ensures ∙ c.if-unfit.false,
      some (lane_of c.args.r.now) (omega (arith, c.count_of-k.ensures)),
      sym c.bad_axes.ensures ∙ c.if-bad_axes.true,
    )

pub returns-then-bad_tolerance : goal.returns-then-bad_tolerance
unfolding refusal_before
returns-then-bad_tolerance c =
    rw (
      sym c.unfit.ensures ∙ c.if-unfit.false,
      some (lane_of c.args.r.now) (omega (arith, c.count_of-k.ensures)),
      sym c.bad_axes.ensures ∙ c.if-bad_axes.false,
      sym c.bad_tolerance.ensures ∙ c.if-bad_tolerance.true,
    )

pub returns-then-too_fine : goal.returns-then-too_fine
unfolding refusal_before
returns-then-too_fine c =
    rw (
      sym c.unfit.ensures ∙ c.if-unfit.false,
      some (lane_of c.args.r.now) (omega (arith, c.count_of-k.ensures)),
      sym c.bad_axes.ensures ∙ c.if-bad_axes.false,
      sym c.bad_tolerance.ensures ∙ c.if-bad_tolerance.false,
      sym c.too_fine.ensures ∙ c.if-too_fine.true,
    )

pub placed-requires : goal.placed-requires
placed-requires c =
    let r = c.args.r.now in
    (waypoint_count r.d r.n r.points.now (sym c.unfit.ensures ∙ c.if-unfit.false), c.requires.1, c.requires.2)

pub returns-in-None : goal.returns-in-None
unfolding refusal_before
returns-in-None c =
    rw (
      sym c.unfit.ensures ∙ c.if-unfit.false,
      some (lane_of c.args.r.now) (omega (arith, c.count_of-k.ensures)),
      sym c.bad_axes.ensures ∙ c.if-bad_axes.false,
      sym c.bad_tolerance.ensures ∙ c.if-bad_tolerance.false,
      sym c.too_fine.ensures ∙ c.if-too_fine.false,
      c.in-None.ensures,
    )

pub returns-in-Some : goal.returns-in-Some
unfolding refusal_before
returns-in-Some c =
    rw (
      sym c.unfit.ensures ∙ c.if-unfit.false,
      some (lane_of c.args.r.now) (omega (arith, c.count_of-k.ensures)),
      sym c.bad_axes.ensures ∙ c.if-bad_axes.false,
      sym c.bad_tolerance.ensures ∙ c.if-bad_tolerance.false,
      sym c.too_fine.ensures ∙ c.if-too_fine.false,
      c.in-Some.ensures.0,
    )
