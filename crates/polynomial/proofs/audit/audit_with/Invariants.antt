-- The slice is that at entry with some bounds and witnesses, and the audit from interval i on, with these, gives what the whole audit gives.
use Rattle.std.proofs.Common.{◌≡◌, ◌+◌, ◌-◌, ◌*◌, ◌<◌, length, List}
use lib.Ieee.{Float}
use Rattle.arith.specs.Loop.{till}
use Rattle.polynomial.specs.Outcome.{Done}
use Rattle.polynomial.specs.Audit.{audit_turn}
use Rattle.polynomial.specs.Placed.{breaks_at, coefficients_at, parameters_at, points_at, audit_at, with_bounds}
use Rattle.polynomial.proofs.audit.audit_with.Given as goal

abbrev pub invariant-loop-i : goal.invariant-loop-i
invariant-loop-i l =
    let w = l.fn.work in
    let p = l.p in
    (l.k < p.segments)
    × (l.checked + l.first ≡ l.i)
    × (length l.work ≡ length w)
    × (length l.cells ≡ length l.fn.cells)
    × ((x : List Float)
    × (z : List Float)
    × (length x ≡ (p.samples - 1) * p.axes)
    × (length z ≡ p.samples - 1)
    × (l.work ≡ with_bounds p x z w)
    × (till (audit_turn (breaks_at p w) (coefficients_at p w) (parameters_at p w) (points_at p w) p.axes) (λ a. a) l.i l.last
    (record { bounds = x; witness = z; span = l.k; checked = l.checked; outcome = Done }) ≡ audit_at p l.first l.last w))
