use Rattle.std.proofs.Common.{◌≡◌, ℕ, ◌+◌, ◌*◌, length, ap, arith}
use Rattle.window.proofs.Windows.{length_window}
use Rattle.seed.specs.Placed.{parameters_at}
use Rattle.seed.proofs.Writing.{parameters_length}
use Rattle.seed.proofs.knots.knots_at.Goals as goal

-- the parts are long enough
pub knots_around-requires : goal.knots_around-requires
knots_around-requires c =
    let g = c.args in
    let p = g.p in
    let w = g.work.now in
    let n = parameters_length p w c.requires.0 in
    let e : length (parameters_at p w) * p.axes ≡ p.samples * p.axes = ap (λ (k : ℕ). k * p.axes) n in
    let y = length_window p.points (p.points + p.samples * p.axes) w (omega arith) (omega arith) in
    (omega arith, omega arith, omega arith, omega arith)
