-- By cases on the checks, in their order.
use Rattle.std.proofs.Common.{◌*◌, ◌<◌, length, is_none, sym, ◌∙◌, arith}
use native.Mathlib.Nat.{div-lt_iff_lt-mul}
use Rattle.arith.proofs.Firsts.{first_before}
use Rattle.window.specs.Cells.{at}
use Rattle.query.specs.Range.{ranged_of}
use Rattle.curve.proofs.Formed.{formed}
use Rattle.query.specs.Row.{outputs}
use Rattle.query.specs.Query.{evaluate_all_of}
use Rattle.query.proofs.Rooms.{rooms, short_first, room_count}
use Rattle.query.proofs.Answered.{above_three, too_short, outside_at, all_done, is_some_of}
use Rattle.query.proofs.entry.evaluate_all_formed.Goals as goal

pub returns-then-order-gt3 : goal.returns-then-order-gt3
unfolding evaluate_all_of
returns-then-order-gt3 c = above_three _ _ _ _ _ _ c.requires c.if-order-gt3.true

pub nonzero_div-q : goal.nonzero_div-q
nonzero_div-q c = omega (arith, (formed _ _ c.requires).d_low)

pub returns-then-q-d : goal.returns-then-q-d
unfolding evaluate_all_of
returns-then-q-d c =
    let a = c.args in
    let some : 0 < a.lent.now.curve.d = omega (arith, (formed _ _ c.requires).d_low) in
    too_short _ _ _ _ _ _ c.requires c.if-order-gt3.false
    (short_first a.order (length a.xs.now * a.lent.now.curve.d) (outputs a.q.now a.dq.now a.ddq.now a.dddq.now)
    ((div-lt_iff_lt-mul some).0 c.if-q-d.true))

pub overflow_mul-count : goal.overflow_mul-count
overflow_mul-count c =
    let some : 0 < c.args.lent.now.curve.d = omega (arith, (formed _ _ c.requires).d_low) in
    let r = room_count (length c.args.q.now) c.args.lent.now.curve.d (length c.args.xs.now) some c.if-q-d.false in
    omega (arith, r)

pub returns-then-short : goal.returns-then-short
unfolding evaluate_all_of
returns-then-short c = too_short _ _ _ _ _ _ c.requires c.if-order-gt3.false (sym c.short.ensures ∙ c.if-short.true)

pub returns-in-Some : goal.returns-in-Some
returns-in-Some c =
    let e = c.in-Some.ensures in
    rw e.1
    (outside_at _ _ _ _ _ (record { formed = c.requires; order_low = c.if-order-gt3.false; long = sym c.short.ensures ∙ c.if-short.false })
    (rw e.1 at e.0))

pub write_all-requires-clause-taken : goal.write_all-requires-clause-taken
write_all-requires-clause-taken c = λ i l.
    let a = c.args in
    is_some_of (ranged_of a.lent.now.curve (at a.xs.now i))
    (first_before (λ j. is_none (ranged_of a.lent.now.curve (at a.xs.now j))) (length a.xs.now) i (rw c.in_default.ensures l))

pub write_all-requires-clause-room : goal.write_all-requires-clause-room
write_all-requires-clause-room c =
    let a = c.args in
    rooms a.order (length a.xs.now * a.lent.now.curve.d) (outputs a.q.now a.dq.now a.ddq.now a.dddq.now) (sym c.short.ensures ∙ c.if-short.false)

pub returns : goal.returns
returns c =
    let e = c.in_default.ensures in
    all_done _ _ _ _ _ (record { formed = c.requires; order_low = c.if-order-gt3.false; long = sym c.short.ensures ∙ c.if-short.false }) _
    (omega (arith, e)) c.write_all.ensures.dddq_after
