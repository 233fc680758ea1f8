-- `parameters::put_parameters` meets its contract.
use mathlib.Core.Path.{◌∙◌}
use native.Mathlib.Omega.{arith}
use borrow.Author.Rules.{rules}
use lib.ListN.{length}
use Rattle.request.specs.Parameters.{parameter_list}
use Rattle.gathering.proofs.Normalising.{first_length, first_normalised}
use Rattle.gathering.proofs.parameters.put_parameters.Statement.{statement}
use Rattle.gathering.proofs.parameters.put_parameters.Tie as tie

-- the parameters as they were put: where it began
abbrev begun : tie.After-put_list → tie.Start
begun c = c.before.before.before.before.before

normalise-requires : tie.Need-normalise-requires
normalise-requires c κs = omega arith

returns : tie.Need-returns
returns c =
    let a = (begun c.before.before.before.before.before.before).args in
    let n = length a.cells.now in
    let p = parameter_list a.spacing a.list.now a.points.now a.d n in
    let is = c.put_list.ensures in
    let r = c.normalise.ensures in
    (r.0 ∙ first_length p n (omega arith) is, r.1 ∙ first_normalised p n (omega arith) is)

pub put_parameters_spec : {M : Type 1} → statement M
put_parameters_spec = tie.close (tie.spec (λ c κs. search rules) normalise-requires (λ c. omega arith) returns)
