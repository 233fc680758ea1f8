-- The rows left, from the band as it is, give what the whole factoring gives, a refusal too.
use Rattle.std.proofs.Common.{◌≡◌}
use Rattle.arith.specs.Loop.{till}
use Rattle.normal.specs.Solve.{pivot_of, whole_of, factor_of}
use Rattle.normal.proofs.factor.Given as goal

abbrev pub invariant-loop-i : goal.invariant-loop-i
invariant-loop-i l = till pivot_of whole_of l.i l.n l.h ≡ factor_of l.n l.fn.h
