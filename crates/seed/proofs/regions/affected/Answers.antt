use Rattle.std.proofs.Common.{◌≡◌, ◌+◌, ◌-◌, min, arith}
use Rattle.seed.specs.Regions.{range_of}
use Rattle.seed.proofs.regions.affected.Goals as goal

pub returns : goal.returns
unfolding range_of
returns c =
    let h : c.min.result ≡ min (c.span-k.result + 6) (c.args.m - 1) = omega arith in
    rw (h, c.max.ensures, c.saturating_sub.ensures, c.span-k.ensures)
