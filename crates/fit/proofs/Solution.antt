-- The solution added to the controls, cell by cell, in one slice that holds both.
use mathlib.Core.Path.{◌≡◌, sym, ap, ◌∙◌}
use mathlib.Core.List.{List}
use Prim.Native.Nat.{ℕ, ◌+◌, ◌-◌, ◌≤◌, ◌<◌}
use native.Mathlib.Omega.{arith}
use lib.ListN.{length, set, length-set}
use lib.Ieee.{Float, nan, binary64, add}
use Rattle.window.specs.Window.{window, splice}
use Rattle.window.specs.Cells.{at}
use Rattle.window.proofs.Windows.{length_window, window_cell, window_same, window_after, splice_splice}
use Rattle.fit.specs.Fit.{add_turn}

-- The controls lie from c up to e, the solution behind them, from `right` on. w is w₀ with other controls, and its control `from` + i gets
-- cell i of the solution.
module _ (c e right count : ℕ) (w w₀ : List Float) (lies : c ≤ e) (apart : e ≤ right) (room : right + count ≤ length w₀)
    (same : length w ≡ length w₀)
    (kept : w ≡ splice c e (window c e w) w₀) (from i : ℕ) (h : i < count) where
  abbrev written : List Float
  written = set (window c e w) (from + i) (add binary64 (at (window c e w) (from + i)) (at w (right + i)))

  long : length (window c e w) ≡ e - c
  long = length_window c e w lies (omega arith)

  solution_kept : at w (right + i) ≡ at (window right (right + count) w₀) i
  solution_kept =
      sym (window_cell right (right + count) w i nan (omega arith))
      ∙ ap (λ (l : List Float). at l i) (ap (window right (right + count)) kept ∙ window_after c e (window c e w) w₀ right (right +
      count) apart lies (omega arith) long)

  pub controls_added : window c e (splice c e written w) ≡ add_turn (window right (right + count) w₀) from i (window c e w)
  unfolding add_turn
  controls_added =
      window_same c e written w (omega arith) (simp length-set long)
      ∙ ap (λ (v : Float). set (window c e w) (from + i) (add binary64 (at (window c e w) (from + i)) v)) solution_kept

  pub others_kept : splice c e written w ≡ splice c e (window c e (splice c e written w)) w₀
  others_kept =
      ap (splice c e written) kept
      ∙ splice_splice c e written w₀ (window c e w) (omega arith) long
      ∙ ap (λ (v : List Float). splice c e v w₀) (sym (window_same c e written w (omega arith) (simp length-set long)))
