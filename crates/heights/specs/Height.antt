-- The height at a step of a segment: document 02, request 9.
use Rattle.std.specs.Prelude.{List, ℕ, zero, suc, ◌+◌, ◌*◌, ◌/◌, ◌^◌, ℤ, pos, negsuc, neg_ℤ, ◌+ℤ◌, ◌*ℤ◌, get_or}
use Rattle.heights.specs.Weights.{weight_of}

-- z / d, "nearest whole, halves away from zero"
abbrev pub nearest_whole : ℤ → ℕ → ℤ
nearest_whole (pos n) d = pos ((2 * n + d) / (2 * d))
nearest_whole (negsuc n) d = neg_ℤ (pos ((2 * suc n + d) / (2 * d)))

-- the sum over the first n controls of "control k times C(5,k)·j^k·(256-j)^(5-k)"
unfoldable pub weighted : List ℤ → ℕ → ℕ → ℤ
weighted c j zero = pos 0
weighted c j (suc k) = weighted c j k +ℤ get_or c k (pos 0) *ℤ pos (weight_of j k)

-- "Step j of 0 to 256 is the sum over k .., divided by 2^40, nearest whole, halves away from zero"
abbrev pub height_of : List ℤ → ℕ → ℤ
height_of c j = nearest_whole (weighted c j 6) (2 ^ 40)
