-- `spread::single` meets its contract.
use mathlib.Core.Path.{refl}
use Rattle.pairs.proofs.SpreadSums.{single_stands}
use Rattle.pairs.proofs.spread.single.Statement.{statement}
use Rattle.pairs.proofs.spread.single.Tie as tie

returns : tie.Need-returns
returns c = λ a N. single_stands a _ N _ refl refl

pub single_spec : {M : Type 1} → statement M
single_spec = tie.close (tie.spec returns)
