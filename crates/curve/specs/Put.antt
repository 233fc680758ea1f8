-- Cells that are written only where they are asked for.
use Rattle.std.specs.Prelude.{Bool, cond, List, ℕ, Float}
use Rattle.window.specs.Rows.{written}

-- l with v from a on, where it is asked for
abbrev pub put_at : Bool → ℕ → List Float → List Float → List Float
put_at asked a v l = cond asked (written a v l) l
