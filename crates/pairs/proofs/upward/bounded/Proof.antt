-- `upward::bounded` meets its contract.
use mathlib.Core.Path.{subst, sym}
use lib.Dec.{T}
use lib.Ieee.{of_bits}
use borrow.Author.Rules.{rules}
use Rattle.pairs.proofs.PlainNumbers.{add_plain, lowest_fits}
use Rattle.pairs.proofs.upward.bounded.Statement.{statement}
use Rattle.pairs.proofs.upward.bounded.Tie as tie

returns : tie.Need-returns
unfolding of_bits
returns c = rw c.lower.ensures (add_plain _ (lowest_fits c.args.x (subst T (sym c.well_formed.0.1) tt)))

pub bounded_spec : {M : Type 1} → statement M
bounded_spec = tie.close (tie.spec (λ c κs. search rules) returns)
