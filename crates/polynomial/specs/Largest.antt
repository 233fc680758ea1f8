-- The largest absolute value of six coefficients, by comparisons alone.
use Rattle.std.specs.Prelude.{cond, List, Float}
use Rattle.std.specs.Float.Ieee.{lt}
use Rattle.arith.specs.Loop.{each}
use Rattle.window.specs.Cells.{at}
use Rattle.fraction.specs.Value.{absolute_float}

-- y where it is above x, and otherwise x
abbrev pub larger_of : Float → Float → Float
larger_of x y = cond (lt x y) y x

unfoldable pub largest_of : List Float → Float
largest_of b = each (λ k m. larger_of m (absolute_float (at b k))) 1 6 (absolute_float (at b 0))
