use Rattle.std.proofs.Common.{◌≡◌}
use Rattle.arith.specs.Operations.{floats}
use Rattle.arith.specs.Loop.{each}
use Rattle.bspline.specs.Powers.{degree_turn, powers_of}
use Rattle.bspline.proofs.basis.powers.Given as goal

-- the degrees left, from the table now, give that of degree five
abbrev pub invariant-loop-j : goal.invariant-loop-j
invariant-loop-j l = each (degree_turn floats l.t l.span l.x) l.j 6 l.b ≡ powers_of floats l.t l.span l.x
