-- What it means that a float is the rounding of an exact fraction.
use Rattle.std.specs.Prelude.{Bool, false, not, ◌≡◌, ◌<◌, ℕ, eqb, Float}
use Rattle.std.specs.Float.{Format, fin, inf, nan}
use Rattle.std.specs.Float.Ieee.{round}
use Rattle.fraction.specs.Integer.{signed}
use Rattle.fraction.specs.Rational.{ℚ}
use Rattle.fraction.specs.Value.{fraction}

-- r is what the model's `round` makes of z: z is over / under with its sign
pub record Rounded (f : Format) (r : Float) (z : ℚ) : Type 0 where
  pub sign : Bool
  pub over : ℕ
  pub under : ℕ
  pub positive : 0 < under
  pub rounds : r ≡ round f sign over under
  pub exact : z ≡ fraction (signed sign over) under positive

-- whether x is finite and not a zero
abbrev pub nonzero : Float → Bool
nonzero nan = false
nonzero (inf s) = false
nonzero (fin s m e) = not (eqb m 0)
