-- Document 02, request 3: "The certificate's s follow the version too". A certificate is that of the same parameters handed in as a list,
-- whatever the spacing.
use mathlib.Core.Path.{◌≡◌, refl}
use mathlib.Core.List.{List}
use Prim.Native.Nat.{ℕ}
use lib.Ieee.{Float}
use Rattle.request.specs.declared.parameters.Spacing.{Spacing}
use Rattle.request.specs.declared.parameters.Spacing.TheVariants.{Listed}
use Rattle.request.specs.Parameters.{parameter_list}
use Rattle.curve.specs.declared.Curve.{Curve}
use Rattle.curve.specs.Form.{Slices}
use Rattle.figure.specs.Certify.{certify_of}

pub listed_certificate : (c : Curve) (s : Slices) (points : List Float) (n : ℕ) (spacing : Spacing) (parameters : List Float)
    (axis depth : ℕ)
    → certify_of c s points n spacing parameters axis depth
    ≡ certify_of c s points n Listed (parameter_list spacing parameters points c.d n) axis depth
unfolding certify_of parameter_list
listed_certificate c s points n spacing parameters axis depth = refl
