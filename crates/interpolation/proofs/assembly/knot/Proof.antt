-- `assembly::knot` meets its contract.
use borrow.Author.Rules.{rules}
use Rattle.interpolation.proofs.Knots.{first_knots_law, inner_knots_law, last_knots}
use Rattle.interpolation.proofs.assembly.knot.Statement.{statement}
use Rattle.interpolation.proofs.assembly.knot.Tie as tie

returns : tie.Need-returns-then-j-lt6
returns c =
    first_knots_law c.args.s.now c.args.n c.requires.0 c.requires.1 c.args.j c.if-j-lt6.true

returns-2 : tie.Need-returns-then-j-n
returns-2 c =
    inner_knots_law c.args.s.now c.args.n c.requires.0 c.requires.1 c.args.j c.if-j-lt6.false c.if-j-n.true

returns-3 : tie.Need-returns
returns-3 c =
    last_knots c.args.s.now c.args.n c.requires.0 c.requires.1 c.args.j c.if-j-n.false c.requires.2

pub knot_spec : {M : Type 1} → statement M
knot_spec =
    tie.close
    (tie.spec returns (λ c. search rules) (λ c. search rules) (λ c. search rules) (λ c. search rules) returns-2 returns-3)
