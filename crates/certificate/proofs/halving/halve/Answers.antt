-- The triangle's edges, by its fifteen midpoints.
use Rattle.certificate.proofs.Triangle.{triangle}
use Rattle.certificate.proofs.halving.halve.Goals as goal

pub returns : goal.returns
returns c =
    triangle c.args.e c.midpoint-p01.result c.midpoint-p12.result c.midpoint-p23.result c.midpoint-p34.result c.midpoint-p45.result
    c.midpoint-p02.result c.midpoint-p13.result c.midpoint-p24.result c.midpoint-p35.result c.midpoint-p03.result
    c.midpoint-p14.result c.midpoint-p25.result c.midpoint-p04.result c.midpoint-p15.result c.midpoint-p05.result
    c.midpoint-p01.ensures c.midpoint-p12.ensures c.midpoint-p23.ensures c.midpoint-p34.ensures c.midpoint-p45.ensures
    c.midpoint-p02.ensures c.midpoint-p13.ensures c.midpoint-p24.ensures c.midpoint-p35.ensures c.midpoint-p03.ensures
    c.midpoint-p14.ensures c.midpoint-p25.ensures c.midpoint-p04.ensures c.midpoint-p15.ensures
    c.midpoint-p05.ensures
