-- How code tells a NaN: it alone differs from itself.
use mathlib.Core.Path.{◌≡◌, refl, sym, ap, subst}
use mathlib.Core.Bool.{true, false, true≢false}
use lib.Dec.{T}
use lib.Ieee.{Float, nan, inf, fin, is_nan, ne}
use lib.Ieee.Compare.{differs_from_itself}

-- there is one NaN, as far as a contract can see
pub is_nan_law : (x : Float) → is_nan x ≡ true → x ≡ nan
unfolding is_nan
is_nan_law nan h = refl
is_nan_law (inf s) h = absurd (true≢false (sym h))
is_nan_law (fin s m e) h = absurd (true≢false (sym h))

-- what differs from itself is a NaN
pub differs_nan : (x : Float) → ne x x ≡ true → is_nan x ≡ true
unfolding is_nan
differs_nan x h = ap is_nan (differs_from_itself x (subst T (sym h) tt))

-- and nothing else is
pub equal_number : (x : Float) → ne x x ≡ false → is_nan x ≡ false
unfolding is_nan ne
equal_number nan h = absurd (true≢false h)
equal_number (inf s) h = refl
equal_number (fin s m e) h = refl
