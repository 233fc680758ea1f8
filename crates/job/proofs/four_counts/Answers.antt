-- One count after the other, as the form reads them.
use Rattle.job.proofs.Places.{unread2, unread3, unread4, all_read}
use Rattle.job.proofs.four_counts.Goals as goal

pub returns-in_err-n-clause-result_value : goal.returns-in_err-n-clause-result_value
returns-in_err-n-clause-result_value c =
    rw c.from_residual-in_err-n.ensures (unread2 c.args.bytes.now _ _ c.in_ok-d.ensures c.in_err-n.ensures)

pub returns-in_err-refinements-clause-result_value : goal.returns-in_err-refinements-clause-result_value
returns-in_err-refinements-clause-result_value c =
    rw c.from_residual-in_err-refinements.ensures
    (unread3 c.args.bytes.now _ _ c.in_ok-d.ensures _ _ c.in_ok-n.ensures c.in_err-refinements.ensures)

pub returns-in_err-segments-clause-result_value : goal.returns-in_err-segments-clause-result_value
returns-in_err-segments-clause-result_value c =
    rw c.from_residual-in_err-segments.ensures
    (unread4 c.args.bytes.now _ _ c.in_ok-d.ensures _ _ c.in_ok-n.ensures _ _ c.in_ok-refinements.ensures c.in_err-segments.ensures)

pub returns-clause-result_value : goal.returns-clause-result_value
returns-clause-result_value c =
    (all_read c.args.bytes.now _ _ c.in_ok-d.ensures _ _ c.in_ok-n.ensures _ _ c.in_ok-refinements.ensures _ _ c.in_ok-segments.ensures).0
