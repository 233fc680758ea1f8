-- A call of `certificate::certify`, by the first promise of its contract.
use Rattle.std.specs.Prelude.{◌≡◌, List, ℕ, Float, Option, Result}
use Rattle.request.specs.declared.parameters.Spacing.{Spacing}
use Rattle.curve.specs.declared.Curve.{Curve}
use Rattle.curve.specs.Form.{Slices}
use Rattle.figure.specs.Certify.{certify_of}
use Rattle.certificate.specs.declared.certify.Refusal.{Refusal}
use Rattle.certificate.specs.Outcome.{outcome_of}

pub record CertifyCall (c : Curve) (s : Slices) (points : List Float) (n : ℕ) (spacing : Spacing) (parameters : List Float)
    (axis depth : ℕ) : Type 0 where
  pub answer : Result (Option Float) Refusal
  pub answered : outcome_of answer ≡ certify_of c s points n spacing parameters axis depth
