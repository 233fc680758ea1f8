-- Document 02, request 10: the theorems about two accepted calls of `build` whose requests differ in rows that are not smoothed, and about
-- the certificates of their curves.
use mathlib.Core.Path.{◌≡◌, refl, sym, ap, ◌∙◌}
use mathlib.Core.List.{List}
use Prim.Native.Nat.{ℕ, ◌<◌}
use lib.ListN.{get_or}
use lib.Ieee.{Float}
use Rattle.window.specs.Cells.{Doubles}
use Rattle.request.specs.declared.parameters.Spacing.{Spacing}
use Rattle.request.specs.declared.parameters.Spacing.TheVariants.{Listed, Even, Chord}
use Rattle.curve.specs.declared.Curve.{Curve}
use Rattle.curve.specs.Form.{Slices}
use Rattle.figure.specs.Certify.{CertificateOutcome, certify_of}
use Rattle.certificate.specs.Outcome as certificates
use Rattle.smoothing.specs.Answer as answers
use Rattle.smoothing.specs.Answer.Answer.{done}
use Rattle.smoothing.specs.Request.{Lane, Limits, smoothed_axes, axis_count}
use Rattle.smoothing.specs.Build.{Result, slices_of, curve_of}
use Rattle.smoothing.proofs.UnsmoothedRows.{with_points}
use Rattle.building.specs.declared.Report.{Report}
use Rattle.building.specs.Outcome.{outcome_of, reported, Results, curve_after, work_after, results_after}
use Rattle.building.specs.Answered.{answer_to}
use Rattle.two_calls.specs.Building.{BuildCall, Gave, OtherRows, SelectedAgree}
use Rattle.two_calls.specs.Certifying.{CertifyCall}
use Rattle.two_calls.proofs.EvenParameters.{list_unread, certificate_unread}
use Rattle.two_calls.proofs.UnsmoothedRows as same
use Rattle.two_calls.proofs.Figures as same-figures

-- the lane with other parameters and points
abbrev with : Lane → Spacing → List Float → List Float → Lane
with l spacing parameters points =
    record {
      d = l.d;
      n = l.n;
      axes = l.axes;
      tolerance = l.tolerance;
      spacing = spacing;
      parameters = parameters;
      points = points;
    }

module _ {l l' : Lane} (o : OtherRows l l') where
  -- the second request is the first with other points, but for a list that is not read
  lane_is : l' ≡ with l l.spacing l'.parameters l'.points
  lane_is = λ i. record {
    d = sym o.d i;
    n = sym o.n i;
    axes = sym o.axes i;
    tolerance = sym o.tolerance i;
    spacing = sym o.spacing i;
    parameters = l'.parameters;
    points = l'.points;
  }

  answer_same : (m : Limits) (work : List Float) (lent : Results) → answer_to l' m work lent ≡ answer_to (with_points l l'.points) m work lent
  answer_same m work lent = ap (λ (k : Lane). answer_to k m work lent) lane_is ∙ go l.spacing refl
    where
      told : Spacing → List Float → answers.Answer Result
      told s p = answer_to (with l s p l'.points) m work lent

      go : (s : Spacing) → l.spacing ≡ s → told l.spacing l'.parameters ≡ told l.spacing l.parameters
      go Listed e = ap (told l.spacing) (sym (o.listed e))
      go Even e =
          ap (λ (s : Spacing). told s l'.parameters) e
          ∙ list_unread (with_points l l'.points) l'.parameters l.parameters m work lent
          ∙ ap (λ (s : Spacing). told s l.parameters) (sym e)
      go Chord e = absurd (o.no_chords e)

  certificate_same : (c : Curve) (s : Slices) (axis depth : ℕ)
      → certify_of c s l'.points l'.n l'.spacing l'.parameters axis depth
      ≡ certify_of c s l'.points l.n l.spacing l.parameters axis depth
  certificate_same c s axis depth = (λ i. certify_of c s l'.points (sym o.n i) (sym o.spacing i) l'.parameters axis depth)
      ∙ go l.spacing refl
    where
      told : Spacing → List Float → CertificateOutcome
      told t p = certify_of c s l'.points l.n t p axis depth

      go : (t : Spacing) → l.spacing ≡ t → told l.spacing l'.parameters ≡ told l.spacing l.parameters
      go Listed e = ap (told l.spacing) (sym (o.listed e))
      go Even e =
          ap (λ (t : Spacing). told t l'.parameters) e
          ∙ certificate_unread c s l'.points l.n l'.parameters l.parameters axis depth
          ∙ ap (λ (t : Spacing). told t l.parameters) (sym e)
      go Chord e = absurd (o.no_chords e)

  module _ {m : Limits} (second : BuildCall l' m) where
    -- the second call as one of the first lane with other points
    abbrev call : BuildCall (with_points l l'.points) m
    call =
        let e = answer_same m second.work second.lent in
        record {
          mode = second.mode;
          work = second.work;
          lent = second.lent;
          answer = second.answer;
          curve = second.curve;
          work_left = second.work_left;
          lent_left = second.lent_left;
          answered = second.answered ∙ ap reported e;
          curved = second.curved ∙ (λ i. curve_after second.mode (sym o.d i) (e i));
          worked = second.worked ∙ ap (λ (y : answers.Answer Result). work_after y second.work) e;
          written = second.written ∙ ap (λ (y : answers.Answer Result). results_after y second.lent) e;
        }

    call_gave : {x : Result} → Gave second x → Gave call x
    call_gave {x} g =
        record {
          given = sym (answer_same m second.work second.lent) ∙ g.given;
          outcome = g.outcome;
          curve = g.curve ∙ ap (λ (d : ℕ). curve_of second.mode d x) (sym o.d);
          slices = g.slices;
        }

    module _ (first : BuildCall l m) where
      -- both accepted: "the same selected segments, the same report"
      pub selected_agree : (r r' : Report) → outcome_of first.answer ≡ done r → outcome_of second.answer ≡ done r'
          → SelectedAgree first second
      selected_agree r r' e e' =
          let a = same.selected_agree first call o.no_chords o.selected r r' e e' in
          record {
            report = a.report;
            breaks = a.breaks;
            coefficients = a.coefficients;
            errors = a.errors;
            first_report = a.first_report;
            second_report = a.second_report;
            first_breaks = a.first_breaks;
            second_breaks = a.second_breaks;
            first_coefficients = a.first_coefficients;
            second_coefficients = a.second_coefficients;
            first_errors = a.first_errors;
            second_errors = a.second_errors;
          }

      -- "and, at one depth, the same certified figures for the selected axes": each certificate of smoothed axis a is of the call's own curve
      -- and the used cells of its slices, against its own points and parameters. `Doubles`, that each listed parameter is an f64, is what
      -- every slice has.
      pub figures_agree : Doubles l.parameters → {x x' : Result} → Gave first x → Gave second x' → (a depth : ℕ) → a < axis_count l
          → let axis = get_or (smoothed_axes l) a 0 in
          (u : CertifyCall first.curve (slices_of x) l.points l.n l.spacing l.parameters axis depth)
          (v : CertifyCall second.curve (slices_of x') l'.points l'.n l'.spacing l'.parameters axis depth)
          → certificates.outcome_of u.answer ≡ certificates.outcome_of v.answer
      figures_agree F {x} {x'} g g' a depth h u v =
          let axis = get_or (smoothed_axes l) a 0 in
          same-figures.figures_agree first call o.no_chords o.selected F g (call_gave g') a depth h u
          (record { answer = v.answer; answered = v.answered ∙ certificate_same second.curve (slices_of x') axis depth })
