-- The exact fraction that a finite float is worth.
use Rattle.std.specs.Prelude.{false, not, ◌*◌, ◌<◌, ℕ, T, Float, pos, ℤ}
use std.Quotient.{cls}
use Rattle.std.specs.Float.Ieee.{down, up}
use Rattle.std.specs.Float.{fin, inf, nan}
use Rattle.std.specs.Float.Ieee.Fits.{down_pos}
use Rattle.fraction.specs.Fraction.{Fraction, whole_fraction}
use Rattle.fraction.specs.Integer.{signed}
use Rattle.fraction.specs.Rational.{◌≤q◌, ℚ}

-- z / c
abbrev pub fraction : ℤ → (c : ℕ) → 0 < c → ℚ
fraction z c C = cls (record { numerator = z; denominator = c; positive = C })

-- m * 2 ^ e with its sign, as a whole number over a whole number above 0 (document 01: "every finite f64 is one"). An infinity and a NaN
-- have no value; here stands 0 for them, and each law asks that a float be finite.
abbrev pub exact_fraction : Float → Fraction
exact_fraction nan = whole_fraction (pos 0)
exact_fraction (inf s) = whole_fraction (pos 0)
exact_fraction (fin s m e) = record { numerator = signed s (m * up e); denominator = down e; positive = down_pos e }

-- the same in ℚ
abbrev pub value : Float → ℚ
value x = cls (exact_fraction x)

-- x bounds z from above: z ≤ x, for a finite x; +∞ bounds every z
abbrev pub BoundsAbove : Float → ℚ → Type 0
BoundsAbove nan z = ⊥
BoundsAbove (inf s) z = T (not s)
BoundsAbove (fin s m e) z = z ≤q value (fin s m e)

-- x bounds z from below: x ≤ z, for a finite x; -∞ bounds every z
abbrev pub BoundsBelow : Float → ℚ → Type 0
BoundsBelow nan z = ⊥
BoundsBelow (inf s) z = T s
BoundsBelow (fin s m e) z = value (fin s m e) ≤q z

-- x with the sign clear
abbrev pub absolute_float : Float → Float
absolute_float nan = nan
absolute_float (inf s) = inf false
absolute_float (fin s m e) = fin false m e
