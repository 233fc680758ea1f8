-- `quick::powers_of` meets its contract.
use native.Mathlib.Omega.{arith}
use lib.Ieee.{of_bits, round}
use Rattle.fraction.specs.Pair.{finite_ends}
use Rattle.figure.specs.Intersection.{raised}
use Rattle.pairs.proofs.SpreadSums.{stands_wider}
use Rattle.certificate.proofs.Wholes.{unit}
use borrow.Author.Rules.{rules}
use Rattle.certificate.proofs.quick.powers_of.Statement.{statement}
use Rattle.certificate.proofs.quick.powers_of.Tie as tie

returns : tie.Need-returns
unfolding raised of_bits round finite_ends
returns c = λ e U.
    let a = c.times-one.ensures 0 63 _ _ (omega arith) (c.single.ensures 0 unit) U in
    let b = c.times-two.ensures 64 63 _ _ (omega arith) a U in
    let d = c.times-three.ensures 128 63 _ _ (omega arith) b U in
    let f = c.times-four.ensures 192 63 _ _ (omega arith) d U in
    let g = c.times-five.ensures 256 63 _ _ (omega arith) f U in (
      stands_wider 64 320 (omega arith) _ _ a,
      stands_wider 128 320 (omega arith) _ _ b,
      stands_wider 192 320 (omega arith) _ _ d,
      stands_wider 256 320 (omega arith) _ _ f,
      g,
    )

pub powers_of_spec : {M : Type 1} → statement M
powers_of_spec = tie.close (tie.spec (λ c κs. search rules) (λ c κs. search rules) (λ c κs. search rules) (λ c κs. search rules) (λ c κs.
    search rules) (λ c κs. search rules) returns)
