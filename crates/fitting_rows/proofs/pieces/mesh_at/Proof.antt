-- `pieces::mesh_at` meets its contract: the ends are cells of the knots' part.
use Rattle.std.proofs.Common.{◌+◌, arith, rules}
use lib.Ieee.{nan}
use Rattle.window.proofs.Windows.{window_cell}
use Rattle.fitting_rows.specs.Pieces.{mesh_span}
use Rattle.fitting_rows.proofs.pieces.mesh_at.Statement.{statement}
use Rattle.fitting_rows.proofs.pieces.mesh_at.Tie as tie

returns : tie.Need-returns
unfolding mesh_span
returns c =
    let p = c.args.p in
    let l = c.args.cells.now in
    let left = window_cell p.knots (p.knots + (p.count + 6)) l c.args.span nan (omega arith) in
    let right = window_cell p.knots (p.knots + (p.count + 6)) l (c.args.span + 1) nan (omega arith) in
    rw (c.partition_point_le-begin.ensures, c.partition_point_lt-end.ensures, left, right)

pub mesh_at_spec : {M : Type 1} → statement M
mesh_at_spec =
    tie.close
    (tie.spec
    (λ c. search rules)
    (λ c. search rules)
    (λ c. search rules)
    (λ c. search rules)
    (λ c. search rules)
    (λ c. search rules)
    (λ c. search rules)
    (λ c. search rules)
    (λ c. search rules)
    (λ c. search rules)
    (λ c. search rules)
    (λ c. search rules)
    (λ c κs. search rules)
    (λ c. search rules)
    (λ c. search rules)
    (λ c. search rules)
    (λ c. search rules)
    (λ c κs. search rules)
    returns)
