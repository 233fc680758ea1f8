-- Parameters outside start to end: document 01, "Mode Error refuses a parameter outside start to end. Mode Clamp answers there as at the
-- nearer end", in its value; a NaN is refused in both (22). The derivatives there are document 02's, request 2 (`standing` in Row).
use Rattle.std.specs.Prelude.{true, false, cond, List, ◌≡◌, ℕ, ◌<◌, length, Float, Option, None, Some, IsSome, unwrap_or}
use Rattle.std.specs.Float.Ieee.{lt, is_nan}
use Rattle.window.specs.Cells.{at}
use Rattle.curve.specs.declared.Curve.{Curve}
use Rattle.curve.specs.declared.Mode.{Mode}
use Rattle.curve.specs.declared.Mode.TheVariants.{Error, Clamp}
use Rattle.query.specs.declared.range.Ranged.{Ranged}

-- beyond an end: refused under Error
abbrev pub beyond_of : Mode → Float → Option Ranged
beyond_of Error end = None
beyond_of Clamp end = Some (record { at = end; outside = true })

-- from start to end
abbrev pub within : Float → Ranged
within x = record { at = x; outside = false }

-- where the curve answers the query at x, and whether x is outside, if it is not refused
unfoldable pub ranged_of : Curve → Float → Option Ranged
ranged_of c x =
    cond (lt x c.start) (beyond_of c.mode c.start)
    (cond (lt c.end x) (beyond_of c.mode c.end) (cond (is_nan x) None (Some (record { at = x; outside = false }))))

-- the same of a query that is known not to be refused
abbrev pub answered_at : Curve → Float → Ranged
answered_at c x = unwrap_or (ranged_of c x) (within x)

-- none of xs is refused
abbrev pub Taken : Curve → List Float → Type 0
Taken c xs = (i : ℕ) → i < length xs → IsSome (ranged_of c (at xs i))

-- each of xs is answered where it is
abbrev pub Inside : Curve → List Float → Type 0
Inside c xs = (i : ℕ) → i < length xs → ranged_of c (at xs i) ≡ Some (within (at xs i))
