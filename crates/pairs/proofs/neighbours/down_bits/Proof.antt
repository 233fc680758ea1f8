-- `neighbours::down_bits` meets its contract.
use native.Mathlib.Omega.{arith}
use borrow.Author.Rules.{rules}
use Rattle.pairs.proofs.BitSteps.{down_room, down_step}
use Rattle.pairs.proofs.neighbours.down_bits.Statement.{statement}
use Rattle.pairs.proofs.neighbours.down_bits.Tie as tie

returns : tie.Need-returns
returns c = down_step _ _ c.put-z.ensures c.requires

pub down_bits_spec : {M : Type 1} → statement M
down_bits_spec =
    tie.close
    (tie.spec (λ c κs. search rules) (λ c. search rules) (λ c. omega (arith, down_room _ _ c.put-z.ensures c.requires))
    (λ c. omega (arith, down_room _ _ c.put-z.ensures c.requires)) returns)
