-- The sum of the terms so far.
use Rattle.std.proofs.Common.{◌≡◌, ◌-◌, ℕ, List, Float}
use Rattle.window.specs.Cells.{at}
use Rattle.fraction.specs.Binomial.{choose}
use Rattle.fraction.specs.Pair as pairs
use Rattle.figure.specs.Intersection.{total}
use Rattle.figure.specs.Operations.{ends}
use Rattle.pairs.specs.Structs.{ends_of}
use Rattle.certificate.specs.Structs.{pair_at}
use Rattle.pairs.specs.declared.ends.Ends.{Ends}
use Rattle.certificate.proofs.intersection.power.Given as goal

-- the terms of power j
abbrev pub terms : List Float → List Ends → ℕ → ℕ → pairs.Ends
terms p u j k = ends.times (ends.times (ends.whole (choose k j)) (ends.number (at p k))) (pair_at u (k - j))

abbrev pub invariant-loop-k : goal.invariant-loop-k
invariant-loop-k l = ends_of l.sum ≡ total ends l.j (l.k - l.j) (terms l.p l.u l.j)
