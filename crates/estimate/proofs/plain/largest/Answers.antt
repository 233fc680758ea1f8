use Rattle.std.proofs.Common.{refl}
use Rattle.estimate.proofs.plain.largest.Goals as goal

pub returns : goal.returns
returns c = rw (
  c.larger.ensures,
  c.larger-fifth.ensures,
  c.larger-fourth.ensures,
  c.larger-third.ensures,
  c.larger-second.ensures,
  c.higher-first.ensures,
) refl
