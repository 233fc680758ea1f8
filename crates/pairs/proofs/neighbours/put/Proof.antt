-- `neighbours::put` meets its contract.
use mathlib.Core.Path.{refl}
use Rattle.pairs.proofs.neighbours.put.Statement.{statement}
use Rattle.pairs.proofs.neighbours.put.Tie as tie

pub put_spec : {M : Type 1} → statement M
put_spec = tie.close (tie.spec (λ c. (λ h. refl, λ h. absurd (h c.if-b-from.true))) (λ c. (λ h. absurd (c.if-b-from.false h), λ h. refl)))
