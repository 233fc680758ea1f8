-- `assembly::add_mesh_piece` meets its contract: the six rows of one piece.
use mathlib.Core.Path.{◌∙◌}
use native.Mathlib.Omega.{arith}
use borrow.Author.Rules.{rules}
use Rattle.fit.specs.Assembly.{mesh_turn}
use Rattle.fit.proofs.Placing.{placed}
use Rattle.fit.proofs.assembly.add_mesh_piece.Statement.{statement}
use Rattle.fit.proofs.assembly.add_mesh_piece.Tie as tie

piece-at-requires : tie.Need-piece_at-piece-requires
piece-at-requires c κs = (placed _ _ _ _ c.requires.0, omega arith, omega arith, omega arith)

add-piece-requires : tie.Need-add_piece-requires
add-piece-requires c κs = (c.requires.0, omega arith)

returns : tie.Need-returns
unfolding mesh_turn
returns c =
    let a = c.args in
    let v = c.add_piece.ensures in
    let q = c.piece_at-piece.ensures in
    (v.0, (v.1.0 ∙ rw (q.0, q.1), v.1.1))

pub add_mesh_piece_spec : {M : Type 1} → statement M
add_mesh_piece_spec =
    tie.close
    (tie.spec
    (λ c. search rules)
    (λ c. search rules)
    (λ c. search rules)
    piece-at-requires
    add-piece-requires
    (λ c. search rules)
    returns)
