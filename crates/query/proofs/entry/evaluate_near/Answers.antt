-- By cases on the checks, in their order. The queries at one parameter are the query at it.
use Rattle.std.proofs.Common.{◌*◌, Option, is_none, not, refl, sym, ap, ◌∙◌, arith}
use Rattle.query.specs.declared.range.Ranged.{Ranged}
use Rattle.query.specs.Row.{outputs}
use Rattle.query.specs.Query.{evaluate_of}
use Rattle.query.proofs.Rooms.{rooms}
use Rattle.query.proofs.Filled.{as_long, room_for}
use Rattle.query.proofs.Answered.{above_three, too_short, outside, done}
use Rattle.query.proofs.entry.evaluate_near.Goals as goal

pub returns-then-order-gt3-clause-dddq_after : goal.returns-then-order-gt3-clause-dddq_after
unfolding evaluate_of
returns-then-order-gt3-clause-dddq_after c = above_three _ _ _ _ _ _ c.requires c.if-order-gt3.true

pub returns-then-short-clause-dddq_after : goal.returns-then-short-clause-dddq_after
unfolding evaluate_of
returns-then-short-clause-dddq_after c =
    too_short _ _ _ _ _ _ c.requires c.if-order-gt3.false (sym c.short.ensures ∙ c.if-short.true)

pub returns-then-is_none-clause-dddq_after : goal.returns-then-is_none-clause-dddq_after
returns-then-is_none-clause-dddq_after c =
    outside _ _ _ _ _ (record { formed = c.requires; order_low = c.if-order-gt3.false; long = sym c.short.ensures ∙ c.if-short.false })
    (ap (λ (r : Option Ranged). is_none r) (sym c.in_range.ensures) ∙ rw c.if-is_none.true at (ap not c.is_none.ensures))

pub write_all-requires-clause-room : goal.write_all-requires-clause-room
write_all-requires-clause-room c =
    let a = c.args in
    let d = a.lent.now.curve.d in
    let given = outputs a.q.now a.dq.now a.ddq.now a.dddq.now in
    room_for a.order (1 * d) d given given (omega arith) (as_long given) (rooms a.order d given (sym c.short.ensures ∙ c.if-short.false))

pub returns-clause-dddq_after : goal.returns-clause-dddq_after
returns-clause-dddq_after c =
    done _ _ _ _ _ (record { formed = c.requires; order_low = c.if-order-gt3.false; long = sym c.short.ensures ∙ c.if-short.false }) _
    (ap (λ (r : Option Ranged). is_none r) (sym c.in_range.ensures) ∙ rw c.if-is_none.false at (ap not c.is_none.ensures))
    c.write_all.ensures.dddq_after

pub returns-clause-ok : goal.returns-clause-ok
returns-clause-ok c = c.write_all.ensures.last 0 refl

pub returns-clause-kept : goal.returns-clause-kept
returns-clause-kept c = c.write_all.ensures.last 0 refl
