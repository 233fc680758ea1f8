use Rattle.std.proofs.Common.{take, sym, refl, arith, append-nil}
use Rattle.lane.specs.Printed.{error_lines}
use Rattle.lane.proofs.Printing.{lines_next}
use Rattle.lane.proofs.lines.error_lines.Goals as goal

pub loop-error-init : goal.loop-error-init
unfolding error_lines
loop-error-init c = (omega arith, refl, sym (append-nil _))

pub loop-error-preserved : goal.loop-error-preserved
loop-error-preserved c =
    let l = c.loop-error in
    let a = c.args in (
      omega arith,
      omega arith,
      lines_next (take a.at a.out.now) _ _ a.errors.now l.error-index _ (omega arith) l.invariant.2 c.error_line-next.ensures.out_after,
    )
