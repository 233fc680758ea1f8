-- `quick::row_1` meets its contract.
use native.Mathlib.Omega.{arith}
use lib.Ieee.{of_bits, round}
use Rattle.figure.specs.Intersection.{bernstein}
use Rattle.certificate.proofs.Wholes.{five, one}
use borrow.Author.Rules.{rules}
use Rattle.certificate.proofs.quick.row_1.Statement.{statement}
use Rattle.certificate.proofs.quick.row_1.Tie as tie

returns : tie.Need-returns
unfolding bernstein of_bits round
returns c = λ f Q X.
    (c.with_term.ensures 760 _ _ (omega arith) (omega arith)
    X Q.1 one.number one.not_negative five.number five.from_one)

pub row_1_spec : {M : Type 1} → statement M
row_1_spec = tie.close (tie.spec (λ c κs. search rules) returns)
