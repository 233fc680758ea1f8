-- The arrays beside the system are as before.
use Rattle.std.proofs.Common.{arith}
use Rattle.interpolation.proofs.Placing.{arrays_kept}
use Rattle.interpolation.proofs.solution.solve.Goals as goal

pub returns-clause-work_unchanged : goal.returns-clause-work_unchanged
returns-clause-work_unchanged c = arrays_kept c.args.q c.args.work.now c.requires c.solve.new.sys (omega arith)
