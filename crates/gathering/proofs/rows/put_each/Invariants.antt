-- The first rows are written; of the next, the first cells.
use Rattle.std.proofs.Common.{◌≡◌, ℕ, ◌*◌, ◌<◌, true}
use lib.Ieee.{Float}
use Rattle.window.specs.Rows.{list_of}
use Rattle.curve.proofs.Putting.{Put, Rows}
use Rattle.gathering.proofs.rows.put_each.Given as goal

abbrev pub invariant-loop-i : goal.invariant-loop-i
invariant-loop-i g l =
    (f : ℕ → ℕ → Float) → ((i a : ℕ) (v : Float) → i < l.n → a < l.k → goal.F-post g l.cell i a v → v ≡ f i a)
    → Rows true l.i (λ j. list_of l.k (f j)) l.fn.cells l.cells

abbrev pub invariant-loop-a : goal.invariant-loop-a
invariant-loop-a g l =
    (f : ℕ → ℕ → Float) → ((i a : ℕ) (v : Float) → i < l.n → a < l.k → goal.F-post g l.cell i a v → v ≡ f i a)
    → Put true (l.i * l.k) l.a (f l.i) l.initial.cells l.cells
