-- `spread::over` meets its contract.
use Rattle.pairs.proofs.Spreading.{long_divisor, not_below_zero, quotient_stands}
use native.Mathlib.Omega.{arith}
use borrow.Author.Rules.{rules}
use Rattle.pairs.proofs.spread.over.Statement.{statement}
use Rattle.pairs.proofs.spread.over.Tie as tie

returns : tie.Need-returns
returns c = λ a b e g l X Y h k. quotient_stands a b 60 (omega arith) e g _ _ X Y (not_below_zero a e _ X h) (long_divisor b g _ Y k) _
    c.step.ensures c.step-2.ensures

pub over_spec : {M : Type 1} → statement M
over_spec = tie.close (tie.spec (λ c κs. search rules) (λ c κs. search rules) returns)
