-- At each return the form gives what the code answers.
use Rattle.std.proofs.Common.{arith}
use Rattle.lane_file.proofs.Heads.{tail_unread2, tail_unread3, tail_read}
use Rattle.lane_file.proofs.head.tail_at.Goals as goal

pub returns-in_err-segments-clause-tail : goal.returns-in_err-segments-clause-tail
returns-in_err-segments-clause-tail c =
    let a = c.args in
    rw c.from_residual-in_err-segments.ensures
    (tail_unread2 a.file.now a.at _ _ c.in_ok-mode.ensures (omega arith) c.in_err-segments.ensures)

pub returns-in_err-other_segments-clause-tail : goal.returns-in_err-other_segments-clause-tail
returns-in_err-other_segments-clause-tail c =
    let a = c.args in
    rw c.from_residual-in_err-other_segments.ensures
    (tail_unread3 a.file.now a.at _ _ c.in_ok-mode.ensures (omega arith) _ _ c.in_ok-segments.ensures c.in_err-other_segments.ensures)

pub returns-clause-tail : goal.returns-clause-tail
returns-clause-tail c =
    let a = c.args in
    (tail_read a.file.now a.at _ _ c.in_ok-mode.ensures (omega arith) _ _ c.in_ok-segments.ensures _ _ c.in_ok-other_segments.ensures).0
