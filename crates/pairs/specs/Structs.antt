-- What the code's pairs stand for.
use Rattle.std.specs.Prelude.{cond, Float}
use Rattle.std.specs.Float.{binary64}
use Rattle.std.specs.Float.Ieee.{of_bits}
use Rattle.fraction.specs.Pair.{none, pair}
use Rattle.fraction.specs.Pair as pairs
use Rattle.pairs.specs.declared.ends.Ends.{Ends}

-- the lowest and the largest f64: -1.7976931348623157e308 and 1.7976931348623157e308
abbrev pub lowest_number : Float
lowest_number = of_bits binary64 0xffef_ffff_ffff_ffff

abbrev pub largest_number : Float
largest_number = of_bits binary64 0x7fef_ffff_ffff_ffff

-- the ends, if the struct says that there are any
abbrev pub ends_of : Ends → pairs.Ends
ends_of e = cond e.good (pair e.low e.high) none
