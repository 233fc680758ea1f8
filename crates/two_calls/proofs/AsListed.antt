-- Document 02, request 3: "The Rust comparison for version 2 passes it the same parameters as a list". Of two calls with the same lent
-- slices, of which the second has the parameters of the first as a list, the answer, the curve and every slice are the same; and two
-- certificates have one answer. This holds for chords as for even parameters.
use mathlib.Core.Path.{◌≡◌, sym, ap, ◌∙◌}
use mathlib.Core.List.{List}
use Prim.Native.Nat.{ℕ}
use lib.Ieee.{Float}
use Rattle.request.specs.declared.parameters.Spacing.{Spacing}
use Rattle.request.specs.declared.parameters.Spacing.TheVariants.{Listed}
use Rattle.request.specs.Parameters.{parameter_list}
use Rattle.curve.specs.declared.Curve.{Curve}
use Rattle.curve.specs.Form.{Slices}
use Rattle.figure.proofs.AsListed.{listed_certificate}
use Rattle.certificate.specs.Outcome as certificates
use Rattle.smoothing.specs.Request.{Lane, Limits}
use Rattle.smoothing.proofs.AsListed.{as_listed, listed_answer}
use Rattle.building.specs.Outcome.{outcome_of, reported, curve_after, lengths_of, work_after, results_after}
use Rattle.building.specs.Answered.{answer_to}
use Rattle.two_calls.specs.Building.{BuildCall}
use Rattle.two_calls.specs.Certifying.{CertifyCall}

-- what both calls lent and chose
pub record SameLent {l l' : Lane} {m : Limits} (first : BuildCall l m) (second : BuildCall l' m) : Type 0 where
  pub mode : first.mode ≡ second.mode
  pub work : first.work ≡ second.work
  pub lent : first.lent ≡ second.lent

-- and what came back
pub record SameBack {l l' : Lane} {m : Limits} (first : BuildCall l m) (second : BuildCall l' m) : Type 0 where
  pub answer : outcome_of first.answer ≡ outcome_of second.answer
  pub curve : first.curve ≡ second.curve
  pub work : first.work_left ≡ second.work_left
  pub lent : first.lent_left ≡ second.lent_left

pub listed_call : {l : Lane} {m : Limits} (first : BuildCall l m) (second : BuildCall (as_listed l) m) → SameLent first second
    → SameBack first second
listed_call {l} {m} first second s =
    let e : answer_to l m first.work first.lent ≡ answer_to (as_listed l) m second.work second.lent =
    listed_answer (lengths_of first.work first.lent) l m ∙ (λ i. answer_to (as_listed l) m (s.work i) (s.lent i)) in
    record {
      answer = first.answered ∙ ap reported e ∙ sym second.answered;
      curve = first.curved ∙ (λ i. curve_after (s.mode i) l.d (e i)) ∙ sym second.curved;
      work = first.worked ∙ (λ i. work_after (e i) (s.work i)) ∙ sym second.worked;
      lent = first.written ∙ (λ i. results_after (e i) (s.lent i)) ∙ sym second.written;
    }

pub listed_certified : (c : Curve) (s : Slices) (points : List Float) (n : ℕ) (spacing : Spacing) (parameters : List Float)
    (axis depth : ℕ)
    (u : CertifyCall c s points n spacing parameters axis depth)
    (v : CertifyCall c s points n Listed (parameter_list spacing parameters points c.d n) axis depth)
    → certificates.outcome_of u.answer ≡ certificates.outcome_of v.answer
listed_certified c s points n spacing parameters axis depth u v =
    u.answered ∙ listed_certificate c s points n spacing parameters axis depth ∙ sym v.answered
