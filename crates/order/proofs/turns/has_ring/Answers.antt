-- A place more, or none is ready.
use Rattle.std.proofs.Common.{sym, ap, [], ◌∷◌, ◌++◌}
use Rattle.order.specs.Outcome.{is_ring}
use Rattle.order.proofs.Turning.{course_none, course_more, course_ring, course_done}
use Rattle.order.proofs.turns.has_ring.Goals as goal

pub loop-place-init : goal.loop-place-init
loop-place-init c = ([], course_none c.args.lanes c.args.pairs.now)

pub returns-then-lanes-lane : goal.returns-then-lanes-lane
returns-then-lanes-lane c =
    let l = c.loop-place in
    let i = l.invariant in
    sym (course_ring c.args.lanes c.args.pairs.now i.0 l.cut l._place c.next-lane.result i.1 c.loop-place-test.true
    (c.next-lane.ensures i.0 i.1.set) c.if-lanes-lane.true)

pub loop-place-preserved : goal.loop-place-preserved
loop-place-preserved c =
    let l = c.loop-place in
    let i = l.invariant in
    let n = c.next-lane in (
      i.0 ++ (n.result ∷ []),
      course_more c.args.lanes c.args.pairs.now i.0 l.cut l._place n.result i.1 c.loop-place-test.true (n.ensures i.0 i.1.set)
          c.insert-cut.result c.if-lanes-lane.false c.insert-cut.ensures,
    )

pub returns : goal.returns
returns c =
    let l = c.loop-place in
    let i = l.invariant in
    sym (ap is_ring (course_done c.args.lanes c.args.pairs.now i.0 l.cut l._place i.1 c.loop-place-test.false))
