-- The segments, then the audit against them.
use Rattle.std.proofs.Common.{arith, refl}
use Rattle.smoothing.specs.State.{polynomial_in}
use Rattle.refinement.specs.Memory.{memory_at, spline_at}
use Rattle.refinement.proofs.Refitting.{audit_is, after_audit}
use Rattle.refinement.proofs.refit.follow.Goals as goal

pub returns : goal.returns
returns c =
    let v = c.audit_in in
    let f = c.refresh in
    let a = c.args in
    let x = memory_at a.p a.work.now in
    let x₁ = memory_at a.p f.new.work in
    let x₂ = memory_at a.p v.new.work in
    let P = (polynomial_in a.p.axes (spline_at a.p a.work.now)).coefficients in
    record {
      audits = λ k. (
          let e =
          audit_is a.p x x₁ x₂ P _ _ _ v.result.checked v.result.outcome k f.ensures.work_after f.ensures.stored refl
          v.ensures.outcome_value.0 v.ensures.outcome_value.1 v.ensures.work_after in
          rw (c.saturating_sub.ensures, c.min.ensures) at e
          );
      stored = after_audit a.p x x₁ x₂ P _ _ f.ensures.work_after f.ensures.stored v.ensures.work_after;
      checked_few = omega (arith, v.ensures.checked_le_samples, c.requires.roomy.0.waypoints_fit, c.requires.roomy.0.small);
    }
