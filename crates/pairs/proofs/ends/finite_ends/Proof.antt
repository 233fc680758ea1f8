-- `pairs::ends::finite_ends` meets its contract.
use lib.Ieee.Scale.{finite}
use Rattle.fraction.specs.Pair.{finite_ends, pair}
use Rattle.pairs.proofs.Pairs.{kept_twice}
use borrow.Author.Rules.{rules}
use Rattle.pairs.proofs.ends.finite_ends.Statement.{statement}
use Rattle.pairs.proofs.ends.finite_ends.Tie as tie

returns : tie.Need-returns
unfolding finite_ends
returns c =
    let a = c.args in
    kept_twice (finite a.a) (finite a.b) (pair a.a a.b) _ _ (rw c.is_finite.ensures
    at c.kept-2.ensures) (rw c.is_finite-2.ensures at c.kept.ensures)

pub finite_ends_spec : {M : Type 1} → statement M
finite_ends_spec = tie.close (tie.spec (λ c κs. search rules) (λ c κs. search rules) (λ c κs. search rules) (λ c κs. search rules) returns)
