-- Tests joined by `&&`, and numbers that are no NaN.
use mathlib.Core.Path.{◌≡◌, refl}
use mathlib.Core.Bool.{true, false}
use lib.Ieee.{Float, nan, inf, fin, is_nan, lt, le, eq}
use Rattle.arith.proofs.Truth.{never}

-- what is at or below itself is no NaN
pub le_number : (x : Float) → le x x ≡ true → is_nan x ≡ false
unfolding is_nan le lt eq
le_number nan h = never h
le_number (inf s) h = refl
le_number (fin s m e) h = refl
