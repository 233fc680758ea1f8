-- Where a parameter lies among the breaks of a piecewise polynomial. Segment k reaches from break k to break k + 1.
use Rattle.std.specs.Prelude.{ℕ, ◌+◌, ◌-◌, min, Bool, ◌&&◌, List, ltb, length, Float}
use Rattle.std.specs.Float.{nan}
use Rattle.std.specs.Float.Ieee.{le}
use Rattle.arith.specs.Loop.{whilst}
use Rattle.bspline.specs.Search.{partition_point}
use Rattle.window.specs.Cells.{at}

-- the source's `Polynomial::segments`
abbrev pub segments : List Float → ℕ
segments breaks = length breaks - 1

-- the source's `Polynomial::span`: `breaks.partition_point(|v| *v <= x).saturating_sub(1).min(segments - 1)`
abbrev pub break_span : List Float → Float → ℕ
break_span breaks x = min (segments breaks - 1) (partition_point nan (λ v. le v x) breaks - 1)

-- `span + 1 < segments && breaks[span + 1] <= left`
abbrev pub passed : List Float → Float → ℕ → Bool
passed breaks left span = ltb (span + 1) (segments breaks) && le (at breaks (span + 1)) left

-- the `while` of `audit` that moves the span on to the segment of `left`
unfoldable pub advanced : List Float → Float → ℕ → ℕ
advanced breaks left span = whilst (passed breaks left) (λ k. k + 1) (length breaks) span
