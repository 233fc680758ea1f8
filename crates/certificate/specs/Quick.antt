-- What the quick figure is computed from, and what its steps stand for.
use Rattle.std.specs.Prelude.{◌-◌, ◌<◌, ℕ, true, ◌≡◌, Float}
use Rattle.std.specs.Float.Ieee.{le}
use Rattle.window.specs.Cells.{+0}
use Rattle.fraction.specs.Binomial.{choose}
use Rattle.fraction.specs.Pair.{Ends}
use Rattle.figure.specs.Operations.{ends}
use Rattle.figure.specs.Intersection.{Intersection, raised, total}
use Rattle.pairs.specs.Spreads.{Number, Stands, shortest}
use Rattle.certificate.specs.declared.quick.Lengths.{Lengths}
use Rattle.certificate.specs.declared.quick.Powers.{Powers}
use Rattle.certificate.specs.declared.quick.Row.{Row}

-- the powers of a pair, from the first to the fifth
abbrev pub PowersStand : Ends → Powers → Type 0
PowersStand e u = Stands 320 (raised ends e 1) u.one × Stands 320 (raised ends e 2) u.two × Stands 320 (raised ends e 3) u.three
    × Stands 320 (raised ends e 4) u.four × Stands 320 (raised ends e 5) u.five

-- the sum of power j: of C(k, j)·p_k·U^(k-j), from k = j on
abbrev pub power_sum : (ℕ → Float) → Ends → ℕ → Ends
power_sum p e j = total ends j (6 - j) (λ k. ends.times (ends.times (ends.whole (choose k j)) (ends.number (p k))) (raised ends e (k -
    j)))

-- six pairs
abbrev pub RowStands : ℕ → (ℕ → Ends) → Row → Type 0
RowStands a f q = Stands a (f 0) q.zero × Stands a (f 1) q.one × Stands a (f 2) q.two × Stands a (f 3) q.three
    × Stands a (f 4) q.four × Stands a (f 5) q.five

-- the parameters are at most 2 in size
pub record NearParameters (x : Intersection) : Type 0 where
  pub start : Number 1 x.start
  pub end : Number 1 x.end
  pub left : Number 1 x.left
  pub right : Number 1 x.right
  pub from : Number 1 x.from
  pub to : Number 1 x.to

-- and the waypoints and coefficients 2^100
pub record Moderate (x : Intersection) : Type 0 where
  pub parameters : NearParameters x
  pub first : Number 100 x.first
  pub second : Number 100 x.second
  pub coefficients : (k : ℕ) → k < 6 → Number 100 (x.coefficient k)

-- the five differences
abbrev pub LengthsStand : Intersection → Lengths → Type 0
LengthsStand x l =
    Stands 2 (ends.minus (ends.number x.end) (ends.number x.start)) l.segment
    × Stands 2 (ends.minus (ends.number x.to) (ends.number x.from)) l.interval
    × Stands 2 (ends.minus (ends.number x.left) (ends.number x.start)) l.before
    × Stands 2 (ends.minus (ends.number x.right) (ends.number x.left)) l.part
    × Stands 2 (ends.minus (ends.number x.left) (ends.number x.from)) l.since

-- no dividend is below 0, and no divisor shorter than 2^-60
abbrev pub Divisible : Lengths → Type 0
Divisible l = (le l.segment.below shortest ≡ true) × (le l.interval.below shortest ≡ true) × (le l.before.below +0 ≡ true)
    × (le l.part.below +0 ≡ true) × (le l.since.below +0 ≡ true)
