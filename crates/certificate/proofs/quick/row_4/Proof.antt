-- `quick::row_4` meets its contract.
use native.Mathlib.Omega.{arith}
use lib.Ieee.{of_bits, round}
use Rattle.figure.specs.Intersection.{bernstein}
use Rattle.certificate.proofs.Wholes.{five, four, one, six, ten}
use borrow.Author.Rules.{rules}
use Rattle.certificate.proofs.quick.row_4.Statement.{statement}
use Rattle.certificate.proofs.quick.row_4.Tie as tie

returns : tie.Need-returns
unfolding bernstein of_bits round
returns c = λ f Q X.
    (c.with_term-3.ensures 763 _ _ (omega arith) (omega arith)
    (c.with_term-2.ensures 762 _ _ (omega arith) (omega arith)
    (c.with_term-s.ensures 761 _ _ (omega arith) (omega arith)
    (c.with_term.ensures 760 _ _ (omega arith) (omega arith)
    X Q.1 four.number four.not_negative five.number five.from_one) Q.2 six.number six.not_negative ten.number
    ten.from_one) Q.3 four.number four.not_negative ten.number ten.from_one) Q.4 one.number one.not_negative five.number five.from_one)

pub row_4_spec : {M : Type 1} → statement M
row_4_spec = tie.close (tie.spec (λ c κs. search rules) (λ c κs. search rules) (λ c κs. search rules) (λ c κs. search rules) returns)
