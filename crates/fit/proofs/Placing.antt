-- A lent slice with arrays in front and a system behind them: what writing the one leaves of the other.
use mathlib.Core.Path.{◌≡◌}
use mathlib.Core.List.{List}
use Prim.Native.Nat.{ℕ, ◌-◌, ◌≤◌}
use native.Mathlib.Omega.{arith}
use lib.ListN.{length}
use lib.Ieee.{Float}
use Rattle.window.specs.Window.{window, splice}
use Rattle.window.proofs.Windows.{length_window, window_same, window_before}
use Rattle.fitting_rows.specs.declared.Place.{Place}
use Rattle.fitting_rows.specs.Arrays.{ArraysWithin}
use Rattle.fit.specs.Region.{WindowLaid, before}

module _ (g e : ℕ) (v w : List Float) (lies : g ≤ e) (long : e ≡ length w) (fills : length v ≡ e - g) where
  -- the arrays are as before
  pub front_kept : window 0 g (splice g e v w) ≡ window 0 g w
  front_kept = window_before g e v w 0 g (omega arith) (omega arith) (omega arith)

  -- and the system is what was written
  pub back_written : window g e (splice g e v w) ≡ v
  back_written = window_same g e v w (omega arith) fills

-- the arrays of a fit lie in the cells before its system
pub placed : (p : Place) (a z : ℕ) (w : List Float) → WindowLaid p a z (length w) → ArraysWithin p (length (before p w))
placed p a z w h =
    let e = length_window 0 p.system w (omega arith) (omega arith) in (
      omega arith,
      omega arith,
      omega arith,
      omega arith,
      omega arith,
      omega arith,
      omega arith,
    )
