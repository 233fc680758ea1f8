-- Lists from which elements are left out by what was kept last: Rust's `dedup`, and the filter at the end of the source's `seed`.
use Rattle.std.specs.Prelude.{Bool, true, ◌&&◌, cond, List, [], ◌∷◌, ℕ, zero, suc, ◌^◌, get_or, Float, Option, Some, None}
use Rattle.std.specs.Float.{nan, binary64}
use Rattle.std.specs.Float.Ieee.{mul, sub, lt, ne}
use Rattle.arith.specs.Operations.{floats}

-- the elements that pass the test, which sees the last one kept, or none, and the element
unfoldable pub thinned : (Option Float → Float → Bool) → Option Float → List Float → List Float
thinned test last [] = []
thinned test last (x ∷ l) =
    cond (test last x) (x ∷ thinned test (Some x) l) (thinned test last l)

-- `dedup` drops what equals the last one kept
unfoldable pub distinct : Option Float → Float → Bool
distinct None x = true
distinct (Some last) x = ne x last

-- `gap` of `seed`: 128 · 2^-52
unfoldable pub gap : Float
gap = mul binary64 (floats.literal 128 1) (floats.literal 1 (2 ^ 52))

-- x is over the gap from 0 and from 1
unfoldable pub inside : Float → Bool
inside x = lt gap x && lt x (sub binary64 floats.one gap)

-- `x > gap && x < 1. - gap && kept.last().is_none_or(|v| x - v > gap)`
unfoldable pub apart : Option Float → Float → Bool
apart None x = inside x
apart (Some last) x = inside x && lt gap (sub binary64 x last)

-- `list.dedup()`
unfoldable pub dedup_of : List Float → List Float
dedup_of list = thinned distinct None list

-- the loop that fills `kept` in `seed`
unfoldable pub kept_of : List Float → List Float
kept_of knots = thinned apart None knots

-- the last of the first k elements, none where k is 0
unfoldable pub last_of : ℕ → List Float → Option Float
last_of zero list = None
last_of (suc k) list = Some (get_or list k nan)
