-- `choices::others` meets its contract.
use mathlib.Core.Path.{◌≡◌, refl, ◌∙◌}
use mathlib.Core.List.{[], ◌∷◌, ◌++◌}
use Prim.Native.Nat.{◌+◌, ◌≤◌}
use native.Mathlib.Omega.{arith}
use lib.ListN.{length, take, length-append}
use Rattle.window.specs.Rows.{join}
use Rattle.smoothing.specs.Rows.{left_over}
use Rattle.curve.specs.Places.{padded}
use Rattle.curve.proofs.Padded.{padded_next}
use Rattle.checks.proofs.Selected.{left_listed, left_other}
use Rattle.checks.proofs.choices.others.Goals as goal
use Rattle.checks.proofs.choices.others.Goals.{then-chosen-position, else-chosen-position}

pub loop-a-init : goal.loop-a-init
unfolding join left_over
loop-a-init c = (omega arith, refl, refl)

pub loop-a-preserved : goal.loop-a-preserved
loop-a-preserved c =
    let axes = c.args.chosen.now.axes in
    let k = c.args.chosen.now.count in
    let l = c.loop-a in
    let p = c.position.ensures in
    let rest = left_over (take k axes) l.a in
    let h : k ≤ length axes = omega arith in
    elim c.if-chosen-position.branch [
      | then-chosen-position w ↦
          let e = left_other axes k l.a h (rw p at w.if-chosen-position.true) in
          let n = length-append rest (l.a ∷ []) in
          let m : l.count + 1 ≡ length (rest ++ (l.a ∷ [])) = omega arith in
          let f : c.if-chosen-position.cells ≡ padded (rest ++ (l.a ∷ [])) =
          w.cells-is ∙ rw (l.invariant.2, l.invariant.1) (padded_next rest l.a (omega arith)) in
          (omega arith, rw e (w.count-is ∙ m), rw e f)
      | else-chosen-position w ↦
          let e = left_listed axes k l.a h (rw p at w.if-chosen-position.false) in
          (omega arith, rw e (w.count-is ∙ l.invariant.1), rw e (w.cells-is ∙ l.invariant.2))
    ]

pub returns : goal.returns
returns c =
    let e : c.loop-a.a ≡ c.args.d = omega arith in
    (rw e at c.loop-a.invariant.1, rw e at c.loop-a.invariant.2)
