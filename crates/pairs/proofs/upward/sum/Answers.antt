use Rattle.std.proofs.Common.{refl}
use Rattle.pairs.proofs.UpwardTests.{upward_stepped}
use Rattle.pairs.proofs.upward.sum.Goals as goal

pub returns : goal.returns
returns c = λ a l N M. rw c.step_if.ensures (upward_stepped a l _ _ N M _ refl)
