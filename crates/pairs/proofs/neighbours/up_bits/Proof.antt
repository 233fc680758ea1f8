-- `neighbours::up_bits` meets its contract.
use native.Mathlib.Omega.{arith}
use borrow.Author.Rules.{rules}
use Rattle.pairs.proofs.BitSteps.{up_room, up_step}
use Rattle.pairs.proofs.neighbours.up_bits.Statement.{statement}
use Rattle.pairs.proofs.neighbours.up_bits.Tie as tie

returns : tie.Need-returns
returns c = up_step _ _ c.put-z.ensures c.requires

pub up_bits_spec : {M : Type 1} → statement M
up_bits_spec =
    tie.close
    (tie.spec (λ c κs. search rules) (λ c. omega (arith, up_room _ _ c.put-z.ensures c.requires)) (λ c. search rules)
    (λ c. omega (arith, up_room _ _ c.put-z.ensures c.requires)) returns)
