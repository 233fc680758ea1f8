-- What holds of the knots that `seed` gives, for any input: they rise strictly, lie strictly between 0 and 1, and are at most three for
-- each inner waypoint.
use mathlib.Core.Path.{◌≡◌, refl, ◌∙◌}
use mathlib.Core.Bool.{true}
use mathlib.Core.List.{List, [], ◌++◌}
use Prim.Native.Nat.{ℕ, ◌+◌, ◌-◌, ◌*◌, ◌≤◌, ◌<◌}
use native.Mathlib.Omega.{arith}
use lib.ListN.{length, drop, length-append, length-drop}
use lib.Ieee.{Float, lt}
use Rattle.window.specs.Cells.{at}
use Rattle.window.specs.Window.{window, splice}
use Rattle.window.proofs.Windows.{window_same, splice_splice}
use Rattle.window.specs.Rows.{written}
use Rattle.sorting.specs.Sort.{sort_of}
use Rattle.sorting.specs.Thin.{kept_of, thinned}
use Rattle.sorting.proofs.Sorted.{sort_count}
use Rattle.sorting.proofs.Kept.{Between, kept_between, kept_rises, kept_count}
use Rattle.seed.specs.Knots.{raw_knots, seed_of}
use Rattle.seed.specs.Placed.{seeded_cells}
use Rattle.seed.proofs.Writing.{raw_count, raw_empty}

module _ (s y : List Float) (d : ℕ) where
  pub seed_between : (i : ℕ) → i < length (seed_of s y d) → Between (at (seed_of s y d) i)
  unfolding seed_of
  seed_between = kept_between (sort_of (raw_knots s y d))

  pub seed_rises : (i : ℕ) → i + 1 < length (seed_of s y d) → lt (at (seed_of s y d) i) (at (seed_of s y d) (i + 1)) ≡ true
  unfolding seed_of
  seed_rises = kept_rises (sort_of (raw_knots s y d))

  pub seed_count : 2 ≤ length s → length (seed_of s y d) ≤ 3 * (length s - 2)
  unfolding seed_of
  seed_count h = omega (arith, kept_count (sort_of (raw_knots s y d)), sort_count (raw_knots s y d), raw_count s y d h)

  -- ---- in the cells of the raw knots
  seeded_length : length (seeded_cells s y d) ≡ length (raw_knots s y d)
  unfolding seeded_cells seed_of
  seeded_length =
      let q = sort_of (raw_knots s y d) in
      length-append (kept_of q) (drop (length (kept_of q)) q) ∙ rw (length-drop (length (kept_of q)) q)
      (omega (arith, kept_count q, sort_count (raw_knots s y d)))

  -- the knots and what was sorted behind them take at most three cells for each inner waypoint
  pub seeded_count : 2 ≤ length s → length (seeded_cells s y d) ≤ 3 * (length s - 2)
  seeded_count h = omega (arith, seeded_length, raw_count s y d h)

  -- no inner waypoint, no knots
  pub seeded_empty : length s < 2 → (seed_of s y d ≡ []) × (seeded_cells s y d ≡ [])
  unfolding seeded_cells seed_of kept_of thinned sort_of
  seeded_empty h = rw (raw_empty s y d h) (refl, refl)

  -- the raw knots are settled in their cells
  pub settled : (from : ℕ) (w w' : List Float) (k r : ℕ) (v : List Float) → from + length (raw_knots s y d) ≤ length w → k
      ≡ length (raw_knots s y d) → w' ≡ written from (raw_knots s y d) w
      → r ≡ length (kept_of (sort_of (window from (from + k) w'))) → v ≡ kept_of (sort_of (window from (from + k) w')) ++ drop r
      (sort_of (window from (from + k) w'))
      → (r ≡ length (seed_of s y d)) × (splice from (from + k) v w' ≡ written from (seeded_cells s y d) w)
  unfolding seeded_cells seed_of
  settled from w w' k r v room e f p q =
      let raw = raw_knots s y d in
      let t : window from (from + k) w' ≡ raw = rw (e, f) (window_same from (from + length raw) raw w (omega arith) (omega arith)) in
      let c : r ≡ length (kept_of (sort_of raw)) = rw t at p in
      let u : v ≡ seeded_cells s y d = rw (t, c) at q in
      (c, rw (e, f, u) (splice_splice from (from + length raw) (seeded_cells s y d) w raw (omega arith) (omega arith) ∙ rw seeded_length))
