-- As it is kept.
use Rattle.heights.proofs.Signed.{difference_fits, difference_back}
use Rattle.heights.proofs.steps.lower.Goals as goal

pub overflow_sub-result : goal.overflow_sub-result
overflow_sub-result c = difference_fits c.args.n c.requires

pub returns : goal.returns
returns c = difference_back c.args.n c.requires
