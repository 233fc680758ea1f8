-- What the code's structs and enums stand for.
use Rattle.std.specs.Prelude.{ℕ, ◌<◌, false, List, ◌≡◌, get_or, Float, Option, Some, None}
use Rattle.std.specs.Float.{nan}
use Rattle.fraction.specs.Pair as pairs
use Rattle.figure.specs.Figure as figures
use Rattle.figure.specs.Figure.{figure, no_figure}
use Rattle.pairs.specs.Structs.{ends_of}
use Rattle.pairs.specs.declared.ends.Ends.{Ends}

-- the figure, or none
abbrev pub figure_in : Option Float → figures.Figure
figure_in (Some x) = figure x
figure_in None = no_figure

-- the pair at j of an array
abbrev pub pair_at : List Ends → ℕ → pairs.Ends
pair_at l j = ends_of (get_or l j (record { low = nan; high = nan; good = false }))

-- an array of six holds the pairs f 0 .. f 5
abbrev pub Holds : List Ends → (ℕ → pairs.Ends) → Type 0
Holds l f = (j : ℕ) → j < 6 → pair_at l j ≡ f j
