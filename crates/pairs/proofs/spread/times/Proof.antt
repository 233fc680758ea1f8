-- `spread::times` meets its contract.
use Rattle.pairs.proofs.Spreading.{times_stands}
use mathlib.Core.Path.{refl}
use borrow.Author.Rules.{rules}
use Rattle.pairs.proofs.spread.times.Statement.{statement}
use Rattle.pairs.proofs.spread.times.Tie as tie

returns : tie.Need-returns
returns c = λ a b e g l X Y. times_stands a b l e g _ _ X Y _ (rw (
  c.step.ensures,
  c.highest.ensures,
) refl)
    (rw (c.step-2.ensures, c.highest-2.ensures) refl)

pub times_spec : {M : Type 1} → statement M
times_spec = tie.close (tie.spec (λ c κs. search rules) (λ c κs. search rules) (λ c κs. search rules) (λ c κs. search rules) returns)
