-- `quick::without_line` meets its contract.
use native.Mathlib.Omega.{arith}
use Rattle.pairs.proofs.SpreadSums.{stands_wider}
use borrow.Author.Rules.{rules}
use Rattle.certificate.proofs.quick.without_line.Statement.{statement}
use Rattle.certificate.proofs.quick.without_line.Tie as tie

returns : tie.Need-returns
returns c = λ f e g Q L M. (
  c.subtract-zero.ensures 753 _ _ (omega arith) Q.0 L,
  c.subtract-one.ensures 753 _ _ (omega arith) Q.1 M,
  stands_wider 753 754 (omega arith) _ _ Q.2,
  stands_wider 753 754 (omega arith) _ _ Q.3,
  stands_wider 753 754 (omega arith) _ _ Q.4,
  stands_wider 753 754 (omega arith) _ _ Q.5,
)

pub without_line_spec : {M : Type 1} → statement M
without_line_spec = tie.close (tie.spec (λ c κs. search rules) (λ c κs. search rules) returns)
