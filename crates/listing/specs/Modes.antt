-- The numbers by which a case gives a mode and a spacing.
use Rattle.std.specs.Prelude.{ℕ, Option, Some, None, cond, eqb}
use Rattle.curve.specs.declared.Mode.{Mode}
use Rattle.curve.specs.declared.Mode.TheVariants.{Error, Clamp}
use Rattle.request.specs.declared.parameters.Spacing.{Spacing}
use Rattle.request.specs.declared.parameters.Spacing.TheVariants.{Listed, Even, Chord}

-- Error is 0, Clamp 1
abbrev pub mode_of : ℕ → Option Mode
mode_of m = cond (eqb m 0) (Some Error) (cond (eqb m 1) (Some Clamp) None)

-- even parameters are 0, listed ones 1, those by chords 2
abbrev pub spacing_of : ℕ → Option Spacing
spacing_of m = cond (eqb m 0) (Some Even) (cond (eqb m 1) (Some Listed) (cond (eqb m 2) (Some Chord) None))
