-- The system of a window: the source's `fit` up to `solve`, loop by loop.
use Rattle.std.specs.Prelude.{ℕ, ◌+◌, ◌-◌, cond, Float}
use Rattle.std.specs.Float.{binary64}
use Rattle.std.specs.Float.Ieee.{sub}
use Rattle.arith.specs.Loop.{each}
use Rattle.window.specs.Cells.{at}
use Rattle.normal.specs.System.{System}
use Rattle.normal.specs.Add.{add_of}
use Rattle.normal.specs.declared.Row.{Row}
use Rattle.fitting_rows.specs.Arrays.{Arrays}
use Rattle.fitting_rows.specs.Samples.{below, dense_of, sample_span, sample_row_of}
use Rattle.fitting_rows.specs.Pieces.{at_or_below, node_row_of, passed_over, piece_start, piece_end, mesh_span}
use Rattle.fitting_rows.specs.declared.pieces.Mesh.{Mesh}
use Rattle.fitting_rows.specs.Penalty.{penalty_row_of, left_out}

-- `rows`, and the system `normal`
pub record Assembled : Type 0 where
  pub rows : ℕ
  pub system : System

abbrev pub assembled : ℕ → System → Assembled
assembled rows system = record { rows = rows; system = system }

-- [a, z) are the active controls
module _ (x : Arrays) (a z : ℕ) where
  -- `let lo = b.t[a]`, `let hi = b.t[z + P]`
  abbrev pub low : Float
  low = at x.t a

  abbrev pub high : Float
  high = at x.t (z + 5)

  -- `normal.add(..)`
  abbrev pub added : Row → System → System
  added row s = add_of a (z - a) x.d row s

  -- `normal.add(..); rows += 1`
  unfoldable pub counted : Row → Assembled → Assembled
  counted row n = assembled (n.rows + 1) (added row n.system)

  -- ---- dense spans: `for i in first..last`
  unfoldable pub sample_turn : ℕ → Assembled → Assembled
  sample_turn i n = cond (dense_of x.t x.s (sample_span x i)) (counted (sample_row_of x i (sample_span x i)) n) n

  unfoldable pub samples_of : ℕ → ℕ → Assembled → Assembled
  samples_of first last n = each sample_turn first last n

  -- ---- sparse spans
  -- `for r in 0..6`, on the piece from `from` to `to`
  unfoldable pub piece_of : Float → Float → Assembled → Assembled
  piece_of from to n = each (λ r k. counted (node_row_of x from (sub binary64 to from) r) k) 0 6 n

  -- `for pair in mesh.windows(2)`
  unfoldable pub mesh_turn : Mesh → ℕ → Assembled → Assembled
  mesh_turn mesh j n = piece_of (piece_start x.s mesh.left mesh.begin j) (piece_end x.s mesh.right mesh.end j) n

  unfoldable pub mesh_of : Mesh → Assembled → Assembled
  mesh_of mesh n = each (mesh_turn mesh) mesh.begin (mesh.end + 1) n

  unfoldable pub sparse_turn : ℕ → Assembled → Assembled
  sparse_turn span n = cond (passed_over x.t x.s low high span) n (mesh_of (mesh_span x span) n)

  unfoldable pub sparse_of : Assembled → Assembled
  sparse_of n = each sparse_turn 5 x.m n

  -- ---- the third derivative
  unfoldable pub nodes_of : Float → ℕ → System → System
  nodes_of strength span s = each (λ r k. added (penalty_row_of x strength span r) k) 0 3 s

  unfoldable pub penalty_turn : Float → ℕ → System → System
  penalty_turn strength span s = cond (left_out x.t low high span) s (nodes_of strength span s)

  unfoldable pub penalties_of : Float → System → System
  penalties_of strength s = each (penalty_turn strength) 5 x.m s

  -- ---- all rows
  unfoldable pub assembled_of : Float → System → Assembled
  assembled_of strength s =
      let n = sparse_of (samples_of (below x.s low) (at_or_below x.s high) (assembled 0 s)) in
      assembled n.rows (penalties_of strength n.system)
