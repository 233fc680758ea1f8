-- Axes of a curve: where one stands among those of its set, and the array that holds a list of them.
use Rattle.std.specs.Prelude.{cond, List, ℕ, zero, suc, ◌+◌, ltb, eqb, get_or}
use Rattle.window.specs.Rows.{list_of}
use Rattle.arith.specs.First.{first_of}

-- the place of axis a among the first n listed axes; n where it is not there
abbrev pub position_of : List ℕ → ℕ → ℕ → ℕ
position_of axes n a = first_of n (λ i. eqb (get_or axes i 0) a)

-- how many axes below a are not among the first k listed
unfoldable pub others_below : List ℕ → ℕ → ℕ → ℕ
others_below axes k zero = 0
others_below axes k (suc a) = others_below axes k a + cond (ltb (position_of axes k a) k) 0 1

-- The place of axis a: among the selected axes its index in the list; the other axes follow in rising order, k and above (the source's
-- `(0..d).filter(|a| !seen[*a])`).
unfoldable pub axis_place : List ℕ → ℕ → ℕ → ℕ
axis_place axes k a = cond (ltb (position_of axes k a) k) (position_of axes k a) (k + others_below axes k a)

-- the array of sixteen cells that begins with the axes; 0 behind them
abbrev pub padded : List ℕ → List ℕ
padded axes = list_of 16 (λ i. get_or axes i 0)
