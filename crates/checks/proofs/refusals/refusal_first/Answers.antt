-- `refusals::refusal_first` meets its contract: by cases on the tests.
use mathlib.Core.Path.{sym, ◌∙◌}
use Prim.Native.Nat.{◌*◌, ◌≤◌}
use native.Mathlib.Omega.{arith}
use native.Mathlib.Nat.{mul-le-mul}
use borrow.Author.Tests.{eq-eqb, ne_eqb}
use Rattle.smoothing.specs.Checks.{miscounted_points}
use Rattle.checks.specs.Request.{limits_of, lane_of}
use Rattle.checks.specs.Checks.{refusal_first}
use Rattle.checks.proofs.Domain.{in_domain}
use Rattle.checks.proofs.refusals.refusal_first.Goals as goal

pub returns-then-is_wide : goal.returns-then-is_wide
unfolding refusal_first
returns-then-is_wide c = rw (sym c.is_wide.ensures ∙ c.if-is_wide.true)

pub overflow_mul-r : goal.overflow_mul-r
overflow_mul-r c =
    let r = c.args.r.now in
    let d = in_domain (lane_of r) (limits_of r.limits) (sym c.is_wide.ensures ∙ c.if-is_wide.false) in
    let h : r.d * r.n ≤ 16 * 20000 = mul-le-mul d.0 d.1 in
    omega (arith, h)

pub returns-then-r : goal.returns-then-r
unfolding refusal_first miscounted_points
returns-then-r c = rw (sym c.is_wide.ensures ∙ c.if-is_wide.false, ne_eqb _ _ c.if-r.true)

pub is_short-requires : goal.is_short-requires
is_short-requires c =
    let r = c.args.r.now in
    let d = in_domain (lane_of r) (limits_of r.limits) (sym c.is_wide.ensures ∙ c.if-is_wide.false) in
    (d.0, d.1, d.2)

pub returns-then-is_short : goal.returns-then-is_short
unfolding refusal_first miscounted_points
returns-then-is_short c = rw (sym c.is_wide.ensures ∙ c.if-is_wide.false, eq-eqb _ _ c.if-r.false, sym c.is_short.ensures ∙ c.if-is_short.true)

pub returns : goal.returns
unfolding refusal_first miscounted_points
returns c = rw (sym c.is_wide.ensures ∙ c.if-is_wide.false, eq-eqb _ _ c.if-r.false, sym c.is_short.ensures ∙ c.if-is_short.false)
