-- The certificate of an axis: what the entry point answers.
use Rattle.std.specs.Prelude.{true, cond, not, ◌||◌, ◌≡◌, List, ℕ, ◌-◌, ◌*◌, eqb, ltb, length, Float, pos}
use Rattle.window.specs.Cells.{at}
use Rattle.fraction.specs.Fraction.{Fraction, ◌≤f◌, whole_fraction}
use Rattle.request.specs.declared.parameters.Spacing.{Spacing}
use Rattle.request.specs.Parameters.{misplaced, normalised_of, parameter_list, unreliable}
use Rattle.request.specs.Points.{unfit}
use Rattle.curve.specs.declared.Curve.{Curve}
use Rattle.curve.specs.Form.{Slices, well_formed}
use Rattle.curve.specs.Places.{position_of}
use Rattle.figure.specs.Axis.{axis_of}
use Rattle.figure.specs.Distance.{Covered, DistanceRule, Rises}
use Rattle.figure.specs.Figure.{Axis, Figure, figure_of, no_figure}

-- document 01's number, 0 where nothing is refused; and the figure, or none
pub record CertificateOutcome : Type 0 where
  pub number : ℕ
  pub certified : Figure

abbrev pub outcome : ℕ → Figure → CertificateOutcome
outcome n f = record { number = n; certified = f }

-- the selected axis that is certified: "p the curve's coefficients, and d the curve's own d"
abbrev pub certified_axis : Curve → Slices → List Float → ℕ → Spacing → List Float → ℕ → Axis
certified_axis c s points n spacing parameters axis =
    axis_of s.breaks s.coefficients c.k (position_of c.axes c.k axis) points c.d axis n spacing parameters

-- Document 02, request 8: "depth above 6 is 23, first among the certificate's". Then "Certifying: 18, 20, 1, 5, 6, 24, 3": 18 d or n above
-- the domain, 20 "point cells differ from d times n", 3 "an axis not selected".
unfoldable pub certify_of : Curve → Slices → List Float → ℕ → Spacing → List Float → ℕ → ℕ → CertificateOutcome
certify_of c s points n spacing parameters axis depth =
    cond (ltb 6 depth) (outcome 23 no_figure)
    (cond (ltb 16 c.d || ltb 20000 n) (outcome 18 no_figure)
    (cond (not (eqb (length points) (c.d * n))) (outcome 20 no_figure)
    (cond (unfit c.d n points) (outcome 1 no_figure)
    (cond (misplaced (parameter_list spacing parameters points c.d n) n) (outcome 5 no_figure)
    (cond (unreliable (parameter_list spacing parameters points c.d n) n) (outcome 6 no_figure)
    (cond (not (well_formed c s)) (outcome 24 no_figure)
    (cond (not (ltb (position_of c.axes c.k axis) c.k)) (outcome 3 no_figure)
    (outcome 0 (figure_of depth (certified_axis c s points n spacing parameters axis))))))))))

-- What the figure F says: the curve is well formed, its breaks and the normalised parameters rise strictly from 0 to 1, every exact
-- fraction from 0 to 1 lies in a segment and in an interval, and the distance rule holds: so curve and line are at most F apart at every
-- fraction from 0 to 1. With the rule, the axis's coefficients and its waypoints are finite.
pub record Certified (c : Curve) (s : Slices) (points : List Float) (n : ℕ) (spacing : Spacing) (parameters : List Float) (axis : ℕ)
    (F : Float) : Type 0 where
  pub well_formed_law : well_formed c s ≡ true
  pub breaks_rise_law : Rises (length s.breaks - 1) (at s.breaks)
  pub parameters_rise : Rises (n - 1) (normalised_of (parameter_list spacing parameters points c.d n) n)
  pub everywhere : (t : Fraction) → whole_fraction (pos 0) ≤f t → t ≤f whole_fraction (pos 1)
      → Covered (certified_axis c s points n spacing parameters axis) t
  pub distance : DistanceRule (certified_axis c s points n spacing parameters axis) F
