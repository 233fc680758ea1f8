-- `intersection::first` meets its contract.
use borrow.Author.Rules.{rules}
use lib.Ieee.{of_bits, round}
use Rattle.certificate.proofs.intersection.first.Statement.{statement}
use Rattle.certificate.proofs.intersection.first.Tie as tie

returns : tie.Need-returns
unfolding of_bits round
returns c =
    rw (c.add.ensures, c.divide_by.ensures, c.both.ensures, c.multiply_by-c.ensures)

pub first_spec : {M : Type 1} → statement M
first_spec = tie.close (tie.spec (λ c κs. search rules) (λ c κs. search rules) (λ c κs. search rules) (λ c κs. search rules) returns)
