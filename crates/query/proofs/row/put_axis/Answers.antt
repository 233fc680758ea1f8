-- By cases on the order.
use Rattle.std.proofs.Common.{arith}
use borrow.Author.Tests.{le-leb, lt-leb}
use Rattle.query.specs.Row.{outputs}
use Rattle.query.proofs.Filled.{cells_filled}
use Rattle.query.proofs.row.put_axis.Goals as goal

pub returns-then-order-lt1 : goal.returns-then-order-lt1
returns-then-order-lt1 c = let a = c.args in
    rw (lt-leb 1 a.order c.if-order-lt1.true, lt-leb 2 a.order (omega arith), lt-leb 3 a.order (omega arith))
    at (cells_filled a.order a.i a.v (outputs a.q.now a.dq.now a.ddq.now a.dddq.now) c.requires)

pub returns-then-order-lt2 : goal.returns-then-order-lt2
returns-then-order-lt2 c = let a = c.args in
    rw (le-leb 1 a.order c.if-order-lt1.false, lt-leb 2 a.order (omega arith), lt-leb 3 a.order (omega arith))
    at (cells_filled a.order a.i a.v (outputs a.q.now a.dq.now a.ddq.now a.dddq.now) c.requires)

pub returns-then-order-lt3 : goal.returns-then-order-lt3
returns-then-order-lt3 c = let a = c.args in
    rw (le-leb 1 a.order c.if-order-lt1.false, le-leb 2 a.order (omega arith), lt-leb 3 a.order (omega arith))
    at (cells_filled a.order a.i a.v (outputs a.q.now a.dq.now a.ddq.now a.dddq.now) c.requires)

pub returns : goal.returns
returns c = let a = c.args in
    rw (le-leb 1 a.order c.if-order-lt1.false, le-leb 2 a.order (omega arith), le-leb 3 a.order (omega arith))
    at (cells_filled a.order a.i a.v (outputs a.q.now a.dq.now a.ddq.now a.dddq.now) c.requires)
