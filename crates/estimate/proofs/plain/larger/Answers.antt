use Rattle.std.proofs.Common.{refl}
use Rattle.estimate.proofs.plain.larger.Goals as goal

pub returns : goal.returns
returns c = rw (c.higher-2.ensures, c.higher.ensures) refl
