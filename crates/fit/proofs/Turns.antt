-- One turn of each loop of the assembly, as the code takes it.
use mathlib.Core.Path.{◌≡◌, refl, sym, ◌∙◌}
use mathlib.Core.Bool.{Bool, true, false}
use Prim.Native.Nat.{ℕ, ◌+◌, ◌-◌, ◌≤◌, ◌<◌}
use native.Mathlib.Omega.{arith}
use lib.Ieee.{Float, binary64, add, mul}
use Rattle.window.specs.Cells.{at}
use Rattle.bspline.proofs.InsertPlaced.{span_within}
use Rattle.normal.specs.System.{System}
use Rattle.normal.specs.Add.{row_of}
use Rattle.normal.specs.declared.Row.{Row}
use Rattle.fitting_rows.specs.Arrays.{Arrays}
use Rattle.fitting_rows.specs.Samples.{dense_of, sample_span, sample_row_of}
use Rattle.fitting_rows.specs.Pieces.{nodes, node_row_of, row_at, passed_over, mesh_span}
use Rattle.fitting_rows.specs.Penalty.{penalty_row_of, left_out}
use Rattle.fit.specs.Assembly.{Assembled, assembled, low, high, added, counted, sample_turn, mesh_of, sparse_turn, nodes_of, penalty_turn}

-- ---- the first control of a row
pub sample_start : (x : Arrays) (i span : ℕ) → (sample_row_of x i span).start ≡ span - 5
unfolding sample_row_of row_of
sample_start x i span = refl

pub node_start : (x : Arrays) (from h : Float) (r : ℕ) → 6 ≤ x.m → (node_row_of x from h r).start < x.m
unfolding node_row_of row_at row_of
node_start x from h r m =
    let k = span_within x.t x.m (add binary64 from (mul binary64 (at nodes r) h)) (omega arith) in omega (arith, k)

pub penalty_start : (x : Arrays) (strength : Float) (span r : ℕ) → (penalty_row_of x strength span r).start ≡ span - 5
unfolding penalty_row_of row_of
penalty_start x strength span r = refl

module _ (x : Arrays) (a z : ℕ) where
  pub row_counted : (row : Row) (rows : ℕ) (s : System) → assembled (rows + 1) (added x a z row s) ≡ counted x a z row (assembled rows s)
  unfolding counted
  row_counted row rows s = refl

  -- ---- a sample in a dense span, and in another
  module _ (i span : ℕ) (dense : Bool) (n : Assembled) (e : span ≡ sample_span x i) (h : dense ≡ dense_of x.t x.s span) where
    pub sample_counted : dense ≡ true → counted x a z (sample_row_of x i span) n ≡ sample_turn x a z i n
    unfolding sample_turn
    sample_counted t = rw (sym e, sym h ∙ t)

    pub sample_passed : dense ≡ false → n ≡ sample_turn x a z i n
    unfolding sample_turn
    sample_passed t = rw (sym e, sym h ∙ t)

  module _ (lo hi : Float) (el : lo ≡ low x a z) (eh : hi ≡ high x a z) (span : ℕ) (out : Bool) where
    -- ---- a span that is passed over, and another
    module _ (n : Assembled) (h : out ≡ passed_over x.t x.s lo hi span) where
      pub span_passed : out ≡ true → n ≡ sparse_turn x a z span n
      unfolding sparse_turn
      span_passed t = rw (sym el, sym eh, sym h ∙ t)

      pub span_counted : out ≡ false → mesh_of x a z (mesh_span x span) n ≡ sparse_turn x a z span n
      unfolding sparse_turn
      span_counted t = rw (sym el, sym eh, sym h ∙ t)

    -- ---- a span that is left out, and another
    module _ (strength : Float) (s : System) (h : out ≡ left_out x.t lo hi span) where
      pub penalty_left : out ≡ true → s ≡ penalty_turn x a z strength span s
      unfolding penalty_turn
      penalty_left t = rw (sym el, sym eh, sym h ∙ t)

      pub penalty_added : out ≡ false → nodes_of x a z strength span s ≡ penalty_turn x a z strength span s
      unfolding penalty_turn
      penalty_added t = rw (sym el, sym eh, sym h ∙ t)
