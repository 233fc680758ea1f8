-- `answer::build` meets its contract: the buffers have document 01's room, so the answer is that of `build_of`.
use mathlib.Core.Path.{◌≡◌, ap, ◌∙◌}
use Prim.Native.Nat.{◌≤◌}
use native.Mathlib.Omega.{arith}
use lib.ListN.{length}
use Rattle.smoothing.specs.Answer.{Answer}
use Rattle.smoothing.specs.Build.{Result}
use Rattle.checks.specs.Request.{axes_of, tolerance_of}
use Rattle.building.specs.Outcome.{results, reported, results_after, lengths_of}
use Rattle.lane.specs.Lane.{request_in}
use Rattle.lane.proofs.Requests.{roomy, errors_stand}
use Rattle.lane.proofs.answer.build.Goals as goal

pub returns-clause-result_value : goal.returns-clause-result_value
unfolding axes_of tolerance_of
returns-clause-result_value c =
    let a = c.args in
    let w = a.work.now in
    let s = results a.breaks.now a.coefficients.now a.other_breaks.now a.other_coefficients.now a.errors.now in
    let d : a.c.d ≤ 2 = omega arith in
    let n : a.c.n ≤ 100 = omega arith in
    let m : a.c.segments ≤ 100 = omega arith in
    let work : 7424 ≤ length a.work.now = omega arith in
    let breaks : 101 ≤ length a.breaks.now = omega arith in
    let coefficients : 1300 ≤ length a.coefficients.now = omega arith in
    let other : 100 ≤ length a.other_breaks.now = omega arith in
    let others : 1300 ≤ length a.other_coefficients.now = omega arith in
    let errors : 2 ≤ length a.errors.now = omega arith in
    let e = roomy (lengths_of w s) (request_in a.c a.cells.now) d n m (work, breaks, coefficients, other, others, errors) in
    c.build-built.ensures.answer_value ∙ ap reported e

pub returns-clause-errors_after : goal.returns-clause-errors_after
unfolding axes_of tolerance_of
returns-clause-errors_after c =
    let a = c.args in
    let w = a.work.now in
    let s = results a.breaks.now a.coefficients.now a.other_breaks.now a.other_coefficients.now a.errors.now in
    let d : a.c.d ≤ 2 = omega arith in
    let n : a.c.n ≤ 100 = omega arith in
    let m : a.c.segments ≤ 100 = omega arith in
    let work : 7424 ≤ length a.work.now = omega arith in
    let breaks : 101 ≤ length a.breaks.now = omega arith in
    let coefficients : 1300 ≤ length a.coefficients.now = omega arith in
    let other : 100 ≤ length a.other_breaks.now = omega arith in
    let others : 1300 ≤ length a.other_coefficients.now = omega arith in
    let errors : 2 ≤ length a.errors.now = omega arith in
    let e = roomy (lengths_of w s) (request_in a.c a.cells.now) d n m (work, breaks, coefficients, other, others, errors) in
    λ x h. errors_stand a.c a.cells.now s _ x (c.build-built.ensures.errors_after ∙ ap (λ (y : Answer Result). results_after y s) e) h
