-- `choices::all` meets its contract.
use mathlib.Core.Path.{refl, sym, ap, ◌∙◌}
use mathlib.Core.List.{List}
use Prim.Native.Nat.{ℕ}
use native.Mathlib.Omega.{arith}
use native.Mathlib.Numerals.{add-one}
use lib.ListN.{set}
use Rattle.window.specs.Rows.{join}
use Rattle.smoothing.specs.Request.{up_to}
use Rattle.curve.specs.Places.{padded}
use Rattle.curve.proofs.Padded.{padded_next}
use Rattle.checks.proofs.Selected.{all_count}
use Rattle.checks.proofs.choices.all.Goals as goal

pub loop-a-init : goal.loop-a-init
unfolding join up_to
loop-a-init c = refl

pub loop-a-preserved : goal.loop-a-preserved
unfolding up_to
loop-a-preserved c =
    let l = c.loop-a in
    let n = all_count l.a in
    rw add-one
    (ap (λ (r : List ℕ). set r l.a l.a) l.invariant ∙ ap (λ (k : ℕ). set (padded (up_to l.a)) k l.a) (sym n)
    ∙ padded_next (up_to l.a) l.a (omega arith))
