-- What the bools and numbers of a caller in C choose, and the curve that its numbers make.
use Rattle.std.specs.Prelude.{Bool, cond, List, ℕ, eqb, Float}
use Rattle.request.specs.declared.parameters.Spacing.{Spacing}
use Rattle.request.specs.declared.parameters.Spacing.TheVariants.{Listed, Even, Chord}
use Rattle.smoothing.specs.Request.{Axes, Tolerance}
use Rattle.smoothing.specs.Request.Axes.{all, listed}
use Rattle.smoothing.specs.Request.Tolerance.{uniform, per_axis}
use Rattle.curve.specs.declared.Curve.{Curve}
use Rattle.curve.specs.declared.Mode.{Mode}
use Rattle.curve.specs.declared.Mode.TheVariants.{Error, Clamp}

-- all axes, or those listed; one tolerance, or those listed
abbrev pub chosen_axes : Bool → List ℕ → Axes
chosen_axes every list = cond every all (listed list)

abbrev pub chosen_tolerance : Bool → Float → List Float → Tolerance
chosen_tolerance one x list = cond one (uniform x) (per_axis list)

-- the header's `enum pamitoye_spacing`: 1, even parameters; 2, by chords; 0, and any other number, those listed
abbrev pub chosen_spacing : ℕ → Spacing
chosen_spacing spacing = cond (eqb spacing 1) Even (cond (eqb spacing 2) Chord Listed)

-- mode Clamp, or mode Error
abbrev pub chosen_mode : Bool → Mode
chosen_mode clamp = cond clamp Clamp Error

abbrev pub passed_curve : ℕ → ℕ → List ℕ → Float → Float → Bool → ℕ → ℕ → Curve
passed_curve d k axes start end clamp segments others =
    record { d = d; k = k; axes = axes; start = start; end = end; mode = chosen_mode clamp; segments = segments; other_segments = others }
