-- `quick::figure_of` meets its contract.
use native.Mathlib.Omega.{arith}
use Rattle.figure.specs.Intersection.{offset, power}
use Rattle.figure.specs.Operations.{ends}
use Rattle.window.specs.Cells.{at}
use Rattle.certificate.specs.Quick.{power_sum}
use Rattle.estimate.specs.Structs.{intersection_of}
use borrow.Author.Rules.{rules}
use Rattle.certificate.proofs.quick.figure_of.Statement.{statement}
use Rattle.certificate.proofs.quick.figure_of.Tie as tie

returns : tie.Need-returns
unfolding power
returns c = λ g M L D.
    let w = c.powers_of-w.ensures _ (c.over.ensures 2 2 _ _ (omega arith) L.3 L.0 D.3 D.0) in
    let l = c.line_of-line.ensures M L D in
    c.row_figure.ensures _ (c.without_line.ensures (power ends (λ k. ends.number (at c.args.x.coefficients k)) _ _) _ _
    (c.curve_powers.ensures (power_sum (at c.args.x.coefficients) (offset ends (intersection_of c.args.x))) _
    (c.sums_of.ensures g M L D) w) l.0 l.1)

pub figure_of_spec : {M : Type 1} → statement M
figure_of_spec = tie.close (tie.spec (λ c κs. search rules) (λ c κs. search rules) (λ c κs. search rules) (λ c κs. search rules) (λ c κs.
    search rules) (λ c κs. search rules) (λ c κs. search rules) returns)
