-- `insertion::insert` meets its contract: the parts that its three steps read and write.
use Prim.Native.Nat.{◌≤◌, ◌<◌}
use native.Mathlib.Omega.{arith}
use Rattle.bspline.proofs.InsertPlaced.{span_within, weights_room, controls_room, knots_room, inserted_is}
use Rattle.bspline.proofs.insertion.insert.Goals as goal

pub insert_weights-w-requires : goal.insert_weights-w-requires
insert_weights-w-requires c =
    let a = c.args in
    let s = c.span-k in
    let k : (5 ≤ s.result) × (s.result < a.s.count) = rw s.ensures (span_within _ _ _ (omega arith)) in
    weights_room a.s.knots a.s.count s.result a.work.now k.0 k.1 (omega arith)

pub insert_controls-requires : goal.insert_controls-requires
insert_controls-requires c =
    let a = c.args in
    let s = c.span-k in
    let k : (5 ≤ s.result) × (s.result < a.s.count) = rw s.ensures (span_within _ _ _ (omega arith)) in
    controls_room a.s.controls a.s.count a.s.axes s.result a.work.now k.0 k.1 (omega arith)

pub insert_knot-requires : goal.insert_knot-requires
insert_knot-requires c =
    let a = c.args in
    let s = c.span-k in
    let k : (5 ≤ s.result) × (s.result < a.s.count) = rw s.ensures (span_within _ _ _ (omega arith)) in
    knots_room a.s.knots a.s.count s.result _ k.1 (omega arith)

pub returns : goal.returns
returns c =
    let a = c.args in
    let s = c.span-k in
    let w = c.insert_weights-w in
    rw (
      c.insert_knot.ensures,
      c.insert_controls.ensures,
      w.ensures,
      s.ensures,
    )
    (inserted_is a.s a.x a.work.now (omega arith) (omega arith) (omega arith))
