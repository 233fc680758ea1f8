-- The points of a request.
use Rattle.std.specs.Prelude.{Bool, not, ◌||◌, List, ℕ, eqb, ltb, length, Float}
use Rattle.std.specs.Float.Ieee.Scale.{finite}
use Rattle.window.specs.Cells.{at}
use Rattle.request.specs.Any.{any}

-- 1, "d = 0, n < 2 or a non-finite point": `d == 0 || n < 2 || points.iter().any(|v| !v.is_finite())`
unfoldable pub unfit : ℕ → ℕ → List Float → Bool
unfit d n points = eqb d 0 || ltb n 2 || any (length points) (λ i. not (finite (at points i)))
