-- Axes of a case, four to a whole number, the first in the low byte: oracle/README.md.
use Rattle.std.specs.Prelude.{ℕ, zero, suc, ◌+◌, ◌/◌, ◌%◌, ◌^◌, min, List, [], ◌∷◌, ◌++◌, slice_index}

-- byte j of a whole number of four bytes; the last for any j above 3
abbrev pub byte_of : ℕ → ℕ → ℕ
byte_of word j = word / 256 ^ min j 3 % 256

-- the first n axes of the whole numbers from `from` on
unfoldable pub axes_of : ℕ → List ℕ → ℕ → List ℕ
axes_of zero wholes from = []
axes_of (suc i) wholes from = axes_of i wholes from ++ (byte_of (slice_index wholes (from + i / 4)) (i % 4) ∷ [])
