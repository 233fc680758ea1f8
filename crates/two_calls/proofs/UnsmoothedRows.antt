-- Document 02, request 10: "Rows that are left unsmoothed must not matter". Two accepted calls of `build` whose lanes differ in rows that
-- are not smoothed.
use mathlib.Core.Path.{◌≡◌, sym, ap, ◌∙◌}
use mathlib.Core.List.{List}
use Prim.Native.Nat.{◌+◌, ◌*◌}
use lib.ListN.{get_or}
use lib.Ieee.{Float}
use Rattle.window.specs.Cells.{at, onto}
use Rattle.window.proofs.Joined.{table_ap}
use Rattle.bspline.specs.Segments.{Polynomial}
use Rattle.curve.specs.Form.{with_widths}
use Rattle.request.specs.declared.parameters.Spacing.TheVariants.{Chord}
use Rattle.smoothing.specs.Answer.Answer.{done}
use Rattle.smoothing.specs.Request.{Lane, Limits, smoothed_axes, axis_count}
use Rattle.smoothing.specs.Rows.{gathered, smoothed_rows}
use Rattle.smoothing.specs.Build as building
use Rattle.smoothing.specs.Build.{Result}
use Rattle.smoothing.proofs.UnsmoothedRows.{with_points, unsmoothed_rows}
use Rattle.building.specs.declared.Report.{Report}
use Rattle.building.specs.Outcome.{outcome_of, report_of, Results, results_after}
use Rattle.two_calls.specs.Building.{BuildCall, Gave, SelectedRowsSame, SelectedAgree}
use Rattle.two_calls.proofs.AcceptedCalls.{gave, built}

pub rows_same : (l : Lane) (points : List Float) → SelectedRowsSame l points → smoothed_rows l ≡ smoothed_rows (with_points l points)
unfolding smoothed_rows gathered
rows_same l points S =
    table_ap l.n (axis_count l) (λ i a. at l.points (i * l.d + get_or (smoothed_axes l) a 0))
    (λ i a. at points (i * l.d + get_or (smoothed_axes l) a 0)) S

module _ {l : Lane} {points : List Float} {m : Limits} (first : BuildCall l m) (second : BuildCall (with_points l points) m)
    (C : l.spacing ≡ Chord → ⊥) (S : SelectedRowsSame l points) where
  -- the selected curve and the report of what they gave
  pub same_result : {x x' : Result} → Gave first x → Gave second x' → (x.selected ≡ x'.selected) × (x.report ≡ x'.report)
  same_result {x} {x'} g g' = unsmoothed_rows l points m x x' C (rows_same l points S) (built first g) (built second g')

  pub selected_agree : (r r' : Report) → outcome_of first.answer ≡ done r → outcome_of second.answer ≡ done r'
      → SelectedAgree first second
  unfolding results_after
  selected_agree r r' e e' =
      let a = gave first r e in
      let b = gave second r' e' in
      let x = a.0 in
      let x' = b.0 in
      let same = same_result a.1 b.1 in
      let told : report_of x' ≡ report_of x =
      ap (λ (t : building.Report). record {
        segments = t.segments;
        interpolated_segments = t.interpolated;
        refinements = t.work.refinements;
        fitting_rows = t.work.rows;
        checked_intervals = t.work.intervals;
      }) (sym same.1) in
      record {
        report = report_of x;
        breaks = x.selected.breaks;
        coefficients = with_widths x.selected.breaks x.selected.coefficients;
        errors = x.report.errors;
        first_report = a.1.outcome;
        second_report = b.1.outcome ∙ ap done told;
        first_breaks = ap (λ (s : Results). s.breaks) a.1.slices;
        second_breaks =
            ap (λ (s : Results). s.breaks) b.1.slices
            ∙ ap (λ (p : Polynomial Float). onto p.breaks second.lent.breaks) (sym same.0);
        first_coefficients = ap (λ (s : Results). s.coefficients) a.1.slices;
        second_coefficients =
            ap (λ (s : Results). s.coefficients) b.1.slices
            ∙ ap (λ (p : Polynomial Float). onto (with_widths p.breaks p.coefficients) second.lent.coefficients) (sym same.0);
        first_errors = ap (λ (s : Results). s.errors) a.1.slices;
        second_errors =
            ap (λ (s : Results). s.errors) b.1.slices
            ∙ ap (λ (t : building.Report). onto t.errors second.lent.errors) (sym same.1);
      }
