-- `pairs::directed::sum_up` meets its contract.
use mathlib.Core.Path.{◌∙◌, ap, sym}
use lib.Ieee.{Float, binary64, neg}
use Rattle.fraction.specs.DirectedSum.{plain_zero, upward_sum}
use Rattle.pairs.proofs.Zeros.{plain_turned}
use borrow.Author.Rules.{rules}
use Rattle.pairs.proofs.directed.sum_up.Statement.{statement}
use Rattle.pairs.proofs.directed.sum_up.Tie as tie

returns : tie.Need-returns
unfolding upward_sum
returns c =
    c.plain.ensures ∙ sym (plain_turned c.lower_sum.result)
    ∙ ap (λ (z : Float). plain_zero binary64 (neg z)) c.lower_sum.ensures

pub sum_up_spec : {M : Type 1} → statement M
sum_up_spec = tie.close (tie.spec (λ c κs. search rules) (λ c κs. search rules) returns)
