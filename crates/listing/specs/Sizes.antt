-- How many cells a curve's parts have; none above document 01's domain.
use Rattle.std.specs.Prelude.{ℕ, ◌+◌, ◌*◌, cond, ◌||◌, eqb, ltb}

-- six coefficients for each of d axes on each of n segments, and the width of each segment
abbrev pub rows_of : ℕ → ℕ → ℕ
rows_of d n = cond (ltb 16 d || ltb 20000 n) 0 (6 * (n * d) + n)

-- the breaks of n segments: none without segments
abbrev pub breaks_of : ℕ → ℕ
breaks_of n = cond (eqb n 0 || ltb 20000 n) 0 (n + 1)
