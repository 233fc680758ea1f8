use Rattle.std.proofs.Common.{◌≡◌, drop}
use Rattle.seed.specs.Regions.{range, merged, regions_of}
use Rattle.seed.proofs.regions.next_region.Given as goal

-- the region so far, with the locations left, gives the regions from the first location on
abbrev pub invariant-loop-i : goal.invariant-loop-i
invariant-loop-i l = merged l.t l.m (range l.a l.z) (drop l.i l.x) ≡ regions_of l.t l.m (drop l.from l.x)
