-- `insertion::insert_knot` meets its contract: the knots after k moved by one, and x in the gap.
use mathlib.Core.Path.{◌≡◌, sym, ◌∙◌}
use mathlib.Core.List.{List, ◌∷◌, [], ◌++◌, append_assoc}
use Prim.Native.Nat.{ℕ, suc, ◌+◌, ◌<◌}
use native.Mathlib.Omega.{arith}
use lib.ListN.{length, take, drop, set, get_or}
use lib.Seq.{take-suc, take-take, set_at, length-take-le}
use lib.Ieee.{Float, nan}
use Rattle.window.specs.Window.{window, splice}
use Rattle.window.proofs.Seams.{drop_take, splice_plain}
use Rattle.bspline.specs.Insertion.{knots_with}
use Rattle.bspline.proofs.insertion.insert_knot.Goals as goal

-- what stands in the gap goes
knot-put : (t : List Float) (x : Float) (n k : ℕ) → k < n → n < length t
    → set (splice (k + 1 + 1) (n + 1) (window (k + 1) n t) t) (k + 1) x ≡ knots_with x k (take n t) ++ drop (n + 1) t
knot-put t x n k h g =
    let r = window (k + 1) n t ++ drop (n + 1) t in
    let e : k + 1 + 1 ≡ suc (k + 1) = omega arith in
    rw (
      splice_plain (k + 1 + 1) (n + 1) (window (k + 1) n t) t (omega arith),
      e,
      take-suc t (k + 1) nan (omega arith),
      append_assoc
          (take (k + 1) t) (get_or t (k + 1) nan ∷ []) r,
    )
    (set_at (take (k + 1) t) (get_or t (k + 1) nan) r x (k + 1) (length-take-le (k + 1) t (omega arith))
    ∙ rw (take-take (k + 1) n t (omega arith), drop_take (k + 1) n t)
    (sym (append_assoc (take (k + 1) t) (x ∷ window (k + 1) n t) (drop (n + 1) t))))

pub returns : goal.returns
returns c =
    let a = c.args in
    rw c.shift.ensures (knot-put a.t.now a.x a.n a.k (omega arith) (omega arith))
