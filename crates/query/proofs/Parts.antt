-- The part of a slice that holds the coefficients of an axis has six cells.
use mathlib.Core.Path.{◌≡◌, ◌∙◌}
use mathlib.Core.List.{List}
use Prim.Native.Nat.{ℕ, ◌+◌, ◌-◌, ◌*◌, ◌≤◌, ◌<◌}
use native.Mathlib.Omega.{arith}
use native.Mathlib.Decide.{dec_lt}
use borrow.Author.Tests.{lt-ltb, le-ltb}
use lib.ListN.{length}
use lib.Ieee.{Float}
use Rattle.window.proofs.Windows.{length_window}
use Rattle.query.specs.Segment.{coefficients_of}

pub six_cells : (selected other : List Float) (k m place span other_span : ℕ) → place < k + m → 6 * (span * k + k) ≤ length selected
    → 6 * (other_span * m + m) ≤ length other
    → length (coefficients_of selected other k m place span other_span) ≡ 6
unfolding coefficients_of
six_cells selected other k m place span other_span l h g = elim (dec_lt place k) [
  | yes b ↦
      let i = span * k + place in
      rw (lt-ltb place k b) (length_window (6 * i) (6 * i + 6) selected (omega arith) (omega arith) ∙ omega arith)
  | no b ↦
      let i = other_span * m + (place - k) in
      rw (le-ltb place k (omega arith)) (length_window (6 * i) (6 * i + 6) other (omega arith) (omega arith) ∙ omega arith)
]
