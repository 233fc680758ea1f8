use Rattle.std.proofs.Common.{refl}
use Rattle.estimate.proofs.plain.difference_powers.Goals as goal

pub returns : goal.returns
returns c =
    let e = c.curve_powers-q.ensures in
    (rw e.0 refl, rw e.1 refl, e.2, e.3, e.4, e.5)
