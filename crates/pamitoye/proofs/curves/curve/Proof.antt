-- `curves::curve` meets its contract.
use borrow.Author.Rules.{rules}
use Rattle.pamitoye.proofs.curves.curve.Statement.{statement}
use Rattle.pamitoye.proofs.curves.curve.Tie as tie

returns : tie.Need-returns
returns c = rw c.mode_of-mode.ensures

pub curve_spec : {M : Type 1} → statement M
curve_spec = tie.close (tie.spec (λ c κs. search rules) returns)
