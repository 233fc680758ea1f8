-- A law for each check.
use Rattle.std.proofs.Common.{sym, ap, ◌∙◌, List, ℕ}
use Rattle.order.specs.Order.{order_of}
use Rattle.order.specs.Outcome.{outcome}
use Rattle.order.proofs.Promises.{answered, fitting, above_lanes, above_pairs, out_of_range, too_short, ordered, placed_ring}
use Rattle.order.proofs.Promises.{placed_order}
use Rattle.order.proofs.cutting_order.Goals as goal
use Rattle.order.proofs.cutting_order.Goals.{then-lanes-gt64-via-then-lanes-gt64, then-lanes-gt64-via-else-lanes-gt64+then-pairs-gt1024}

pub returns-then-lanes-gt64-clause-order_after : goal.returns-then-lanes-gt64-clause-order_after
returns-then-lanes-gt64-clause-order_after c =
    let a = c.args in
    elim c.then-lanes-gt64.branch [
      | then-lanes-gt64-via-then-lanes-gt64 w ↦ above_lanes a.lanes a.pairs.now a.order.now w.if-lanes-gt64.true
      | then-lanes-gt64-via-else-lanes-gt64+then-pairs-gt1024 w ↦ above_pairs a.lanes a.pairs.now a.order.now w.if-pairs-gt1024.true
    ]

pub returns-then-not-in_range : goal.returns-then-not-in_range
returns-then-not-in_range c =
    let a = c.args in
    let e = out_of_range a.lanes a.pairs.now a.order.now c.if-lanes-gt64.false c.if-pairs-gt1024.false
    (sym c.in_range.ensures ∙ c.if-not-in_range.true) in
    record { order_after = e; promised = (answered a.lanes a.pairs.now a.order.now _ e).1 }

pub returns-then-order-lanes : goal.returns-then-order-lanes
returns-then-order-lanes c =
    let a = c.args in
    let e = too_short a.lanes a.pairs.now a.order.now c.if-lanes-gt64.false c.if-pairs-gt1024.false
    (sym c.in_range.ensures ∙ c.if-not-in_range.false) c.if-order-lanes.true in
    record { order_after = e; promised = (answered a.lanes a.pairs.now a.order.now _ e).1 }

pub has_ring-requires : goal.has_ring-requires
has_ring-requires c =
    let a = c.args in
    (fitting a.lanes a.pairs.now c.if-lanes-gt64.false (sym c.in_range.ensures ∙ c.if-not-in_range.false), c.if-lanes-gt64.false)

pub returns-then-has_ring : goal.returns-then-has_ring
returns-then-has_ring c =
    let a = c.args in
    let e = placed_ring (order_of a.lanes a.pairs.now) a.order.now (sym c.has_ring.ensures ∙ c.if-has_ring.true)
    ∙ ordered a.lanes a.pairs.now a.order.now c.if-lanes-gt64.false c.if-pairs-gt1024.false
    (sym c.in_range.ensures ∙ c.if-not-in_range.false) c.if-order-lanes.false in
    record { order_after = e; promised = (answered a.lanes a.pairs.now a.order.now _ e).1 }

pub write_order-requires : goal.write_order-requires
write_order-requires c =
    let a = c.args in (
      fitting a.lanes a.pairs.now c.if-lanes-gt64.false (sym c.in_range.ensures ∙ c.if-not-in_range.false),
      c.if-lanes-gt64.false,
      c.if-order-lanes.false,
      sym c.has_ring.ensures ∙ c.if-has_ring.false,
    )

pub returns : goal.returns
returns c =
    let a = c.args in
    let e = ap (λ (l : List ℕ). outcome 0 l) c.write_order.ensures
    ∙ placed_order (order_of a.lanes a.pairs.now) a.order.now (sym c.has_ring.ensures ∙ c.if-has_ring.false)
    ∙ ordered a.lanes a.pairs.now a.order.now c.if-lanes-gt64.false c.if-pairs-gt1024.false
    (sym c.in_range.ensures ∙ c.if-not-in_range.false) c.if-order-lanes.false in
    record { order_after = e; promised = (answered a.lanes a.pairs.now a.order.now _ e).1 }
