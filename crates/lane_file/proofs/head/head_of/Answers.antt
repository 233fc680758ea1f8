-- At each return the form gives what the code answers.
use Rattle.std.proofs.Common.{sym}
use Rattle.lane_file.proofs.Heads.{head_unread1, head_unread2, head_above, head_unread3, head_unread4, head_read}
use Rattle.lane_file.proofs.head.head_of.Goals as goal

pub returns-in_err-d : goal.returns-in_err-d
returns-in_err-d c = rw c.from_residual.ensures (head_unread1 c.args.file.now c.in_err-d.ensures)

pub returns-in_err-k : goal.returns-in_err-k
returns-in_err-k c =
    rw c.from_residual-in_err-k.ensures (head_unread2 c.args.file.now _ _ c.in_ok-d.ensures c.in_err-k.ensures)

pub returns-then-d-k : goal.returns-then-d-k
returns-then-d-k c = head_above c.args.file.now _ _ c.in_ok-d.ensures _ _ c.in_ok-k.ensures c.if-d-k.true

pub returns-in_err-list : goal.returns-in_err-list
returns-in_err-list c =
    rw c.from_residual-in_err-list.ensures
    (head_unread3 c.args.file.now _ _ c.in_ok-d.ensures _ _ c.in_ok-k.ensures c.if-d-k.false c.in_err-list.ensures)

pub returns-in_err-tail : goal.returns-in_err-tail
returns-in_err-tail c =
    let x = c.in_ok-list.ensures in
    rw c.from_residual-in_err-tail.ensures
    (head_unread4 c.args.file.now _ _ c.in_ok-d.ensures _ _ c.in_ok-k.ensures c.if-d-k.false x.list _ x.read (sym c.in_err-tail.ensures.tail))

pub returns : goal.returns
returns c =
    let x = c.in_ok-list.ensures in
    record {
      axes = x.list;
      read = head_read c.args.file.now _ _ c.in_ok-d.ensures _ _ c.in_ok-k.ensures c.if-d-k.false x.list _ x.read _ _ _ _
          (sym c.in_ok-tail.ensures.tail);
      held = x.held;
      ended = c.in_ok-tail.ensures.end;
    }
