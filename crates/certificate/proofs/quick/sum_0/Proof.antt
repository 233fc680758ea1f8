-- `quick::sum_0` meets its contract.
use native.Mathlib.Omega.{arith}
use lib.Ieee.{of_bits, round}
use Rattle.figure.specs.Intersection.{raised, total}
use Rattle.certificate.proofs.Wholes.{one}
use borrow.Author.Rules.{rules}
use Rattle.certificate.proofs.quick.sum_0.Statement.{statement}
use Rattle.certificate.proofs.quick.sum_0.Tie as tie

returns : tie.Need-returns
unfolding total raised of_bits round
returns c = λ e N U.
    (c.gained.ensures 430 _ _ (omega arith) (omega arith)
    (c.gained-e.ensures 429 _ _ (omega arith) (omega arith)
    (c.gained-d.ensures 428 _ _ (omega arith) (omega arith)
    (c.gained-c.ensures 427 _ _ (omega arith) (omega arith)
    (c.gained-b.ensures 426 _ _ (omega arith) (omega arith)
    (c.lead-a.ensures (N 0 (omega arith))) one.number (N 1 (omega arith)) U.0) one.number (N 2 (omega arith)) U.1) one.number (N 3 (omega arith)) U.2) one.number (N 4 (omega arith)) U.3) one.number (N 5 (omega arith)) U.4)

pub sum_0_spec : {M : Type 1} → statement M
sum_0_spec = tie.close (tie.spec (λ c. search rules) (λ c κs. search rules) (λ c. search rules) (λ c κs. search rules) (λ c. search
    rules) (λ c κs. search rules) (λ c. search rules) (λ c κs. search rules) (λ c. search rules) (λ c κs. search rules) (λ c. search
    rules) (λ c κs. search rules) returns)
