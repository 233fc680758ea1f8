use Rattle.std.proofs.Common.{refl}
use lib.Ieee.{of_bits, round}
use Rattle.figure.specs.Intersection.{bernstein, total}
use Rattle.estimate.proofs.plain.bernstein.Goals as goal

pub returns : goal.returns
unfolding bernstein total of_bits round
returns c = λ f h. (
  rw h.0 refl,
  rw (h.0, h.1) refl,
  rw (h.0, h.1, h.2) refl,
  rw (h.0, h.1, h.2, h.3) refl,
  rw (h.0, h.1, h.2, h.3, h.4) refl,
  rw (h.0, h.1, h.2, h.3, h.4, h.5) refl,
)
