-- The sum of the terms so far.
use Rattle.std.proofs.Common.{◌≡◌, ℕ}
use Rattle.fraction.specs.Binomial.{choose}
use Rattle.fraction.specs.Pair as pairs
use Rattle.figure.specs.Intersection.{total}
use Rattle.figure.specs.Operations.{ends}
use Rattle.pairs.specs.Structs.{ends_of}
use Rattle.certificate.specs.Structs.{pair_at}
use Rattle.certificate.proofs.intersection.bernstein.Given as goal

-- the terms of coefficient k
abbrev pub terms : (ℕ → pairs.Ends) → ℕ → ℕ → pairs.Ends
terms q k j = ends.over (ends.times (q j) (ends.whole (choose k j))) (ends.whole (choose 5 j))

abbrev pub invariant-loop-j : goal.invariant-loop-j
invariant-loop-j l = ends_of l.sum ≡ total ends 0 l.j (terms (pair_at l.q) l.k)
