-- The weights: document 02, request 9, "C(5,k)·j^k·(256-j)^(5-k)", "in a table of 257 rows of six", "and each row totals 2^40".
use Rattle.std.specs.Prelude.{List, ℕ, ◌+◌, ◌-◌, ◌*◌, ◌^◌, get_or}
use Rattle.window.specs.Rows.{table}
use Rattle.fraction.specs.Binomial.{choose}

-- the weight of control k at step j
abbrev pub weight_of : ℕ → ℕ → ℕ
weight_of j k = choose 5 k * j ^ k * (256 - j) ^ (5 - k)

-- all of them, row after row: entry 6 j + k is that of control k at step j
unfoldable pub weight_table : List ℕ
weight_table = table 257 6 weight_of

-- the total of row j of a table
abbrev pub row_total : List ℕ → ℕ → ℕ
row_total t j =
    get_or t (6 * j + 0) 0 + get_or t (6 * j + 1) 0 + get_or t (6 * j + 2) 0 + get_or t (6 * j + 3) 0 + get_or t (6 * j + 4) 0 + get_or t (6 * j + 5) 0
