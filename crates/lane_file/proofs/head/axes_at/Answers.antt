use Rattle.std.proofs.Common.{◌≡◌, ◌++◌, [], ◌∷◌, length, refl, ap, ◌∙◌, arith}
use Rattle.curve.specs.Places.{padded}
use Rattle.curve.proofs.Padded.{padded_length}
use Rattle.lane_file.proofs.AxisLists.{so_far_none, so_far_next, kept, not_kept, so_far_bad, so_far_all}
use Rattle.lane_file.proofs.head.axes_at.Goals as goal
use Rattle.lane_file.proofs.head.axes_at.Goals.{then-i-lt16, else-i-lt16}

pub loop-i-init : goal.loop-i-init
loop-i-init c = let a = c.args in (refl, so_far_none a.file.now a.at a.k c.requires)

pub returns-in_err-axis : goal.returns-in_err-axis
returns-in_err-axis c =
    let a = c.args in
    let l = c.loop-i in
    rw c.from_residual.ensures (so_far_bad a.file.now a.at a.k l.axes l.next l.i l.invariant.1 (omega arith) c.in_err-axis.ensures)

pub loop-i-preserved : goal.loop-i-preserved
loop-i-preserved c =
    let a = c.args in
    let l = c.loop-i in
    let so = l.invariant.1 in
    let v = c.in_ok-axis.axis.value in
    let held : c.if-i-lt16.axes ≡ padded (so.list ++ (v ∷ [])) = elim c.if-i-lt16.branch [
      | then-i-lt16 w ↦ w.axes-is ∙ kept a.file.now a.at a.k l.axes l.next l.i so v w.if-i-lt16.true
      | else-i-lt16 w ↦ w.axes-is ∙ not_kept a.file.now a.at a.k l.axes l.next l.i so v w.if-i-lt16.false
    ] in (
      ap length held ∙ padded_length (so.list ++ (v ∷ [])),
      so_far_next a.file.now a.at a.k l.axes l.next l.i so c.if-i-lt16.axes v _ (omega arith) c.in_ok-axis.ensures held,
    )

pub returns : goal.returns
returns c =
    let a = c.args in
    let l = c.loop-i in
    let so = l.invariant.1 in
    record {
      list = so.list;
      read = so_far_all a.file.now a.at a.k l.axes l.next l.i so (omega arith);
      held = so.held;
      ended = so.ended;
    }
