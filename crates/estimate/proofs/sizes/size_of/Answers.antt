use Rattle.std.proofs.Common.{refl}
use Rattle.estimate.proofs.sizes.size_of.Goals as goal

pub returns : goal.returns
returns c = rw (
  c.larger.ensures,
  c.larger-m6.ensures,
  c.larger-m5.ensures,
  c.larger-m4.ensures,
  c.larger-m3.ensures,
  c.larger-m2.ensures,
  c.larger-m1.ensures,
  c.larger-m0.ensures,
) refl
