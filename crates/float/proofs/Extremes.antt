-- The maximum and the minimum drop a NaN.
use mathlib.Core.Path.{◌≡◌, refl}
use lib.Ieee.{Float, nan, inf, fin, is_nan, lt}
use Rattle.float.specs.Order.{chosen, max_of, min_of}

pub max_drops_nan : (x : Float) → (max_of nan x ≡ x) × (max_of x nan ≡ x)
unfolding chosen is_nan lt
max_drops_nan nan = (refl, refl)
max_drops_nan (inf s) = (refl, refl)
max_drops_nan (fin s m e) = (refl, refl)

pub min_drops_nan : (x : Float) → (min_of nan x ≡ x) × (min_of x nan ≡ x)
unfolding chosen is_nan lt
min_drops_nan nan = (refl, refl)
min_drops_nan (inf s) = (refl, refl)
min_drops_nan (fin s m e) = (refl, refl)
