-- The parts are long enough, and the witness is a cell of its part.
use Rattle.std.proofs.Common.{arith, ap, ◌≡◌, ◌+◌, ◌-◌, ◌*◌, ℕ, length}
use Rattle.arith.proofs.Rows.{row_end}
use Rattle.window.proofs.Windows.{length_window}
use Rattle.polynomial.specs.Placed.{breaks_at}
use Rattle.polynomial.proofs.audit.interval_at.Goals as goal

pub audit_interval-requires : goal.audit_interval-requires
audit_interval-requires c =
    let a = c.args in
    let p = a.p in
    let w = a.work.now in
    let n = length_window p.breaks (p.breaks + p.segments + 1) w (omega arith) (omega arith) in
    let b : length (breaks_at p w) - 1 ≡ p.segments = omega arith in
    let k = length_window p.coefficients (p.coefficients + p.segments * (6 * p.axes)) w (omega arith) (omega arith) in
    let s = length_window p.parameters (p.parameters + p.samples) w (omega arith) (omega arith) in
    let y = length_window p.points (p.points + p.samples * p.axes) w (omega arith) (omega arith) in
    let e : (length (breaks_at p w) - 1) * (6 * p.axes) ≡ p.segments * (6 * p.axes) = ap (λ (n : ℕ). n * (6 * p.axes)) b in
    let r = row_end (a.i + 1) p.samples p.axes (p.samples * p.axes) (omega arith) (omega arith) in
    (omega arith, omega arith, omega arith, omega arith, omega arith)
