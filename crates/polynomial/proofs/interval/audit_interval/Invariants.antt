-- The walk from here on, with some turns taken, gives what the whole walk gives. The measure is `turns_left` of `proofs/Walk`.
use Rattle.std.proofs.Common.{◌≡◌, ◌+◌, ◌<◌, length, ℕ}
use Rattle.arith.specs.Loop.{till}
use Rattle.polynomial.specs.Outcome.{Done}
use Rattle.polynomial.specs.Interval.{found, ended_by, walk_turn, interval_of}
use Rattle.polynomial.proofs.Walk.{turns_left}
use Rattle.polynomial.proofs.interval.audit_interval.Given as goal

abbrev pub invariant-loop-left : goal.invariant-loop-left
invariant-loop-left l =
    (l.k + 1 < length l.breaks)
    × (length l.bounds ≡ l.d)
    × ((j : ℕ)
    × (j + turns_left l.breaks l.end l.left l.k < length l.breaks + 2)
    × (till (walk_turn l.breaks l.coefficients l.s l.y l.d l.i) (λ w. ended_by Done w.span w.found) j (length l.breaks + 2)
    (record { left = l.left; span = l.k; found = found l.bounds l.f })
    ≡ interval_of l.breaks l.coefficients l.s l.y l.d l.i l.span l.before))

abbrev pub decreases-loop-left : goal.decreases-loop-left
decreases-loop-left l = turns_left l.breaks l.end l.left l.k
