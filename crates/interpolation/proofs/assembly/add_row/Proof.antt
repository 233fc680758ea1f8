-- `assembly::add_row` meets its contract: the row is added to the system, and the arrays are as before.
use mathlib.Core.Path.{◌≡◌, ◌∙◌}
use native.Mathlib.Omega.{arith}
use borrow.Author.Rules.{rules}
use lib.ListN.{length}
use Rattle.normal.specs.System.{size_of}
use Rattle.interpolation.proofs.Placing.{arrays_kept, system_written}
use Rattle.interpolation.proofs.assembly.add_row.Statement.{statement}
use Rattle.interpolation.proofs.assembly.add_row.Tie as tie

returns : tie.Need-returns
returns c =
    let q = c.args.q in
    let w = c.args.work.now in
    let v = c.add in
    let fills : length v.new.sys ≡ size_of q.count q.axes = omega arith in
    (arrays_kept q w c.requires.0 v.new.sys fills, system_written q w c.requires.0 v.new.sys fills ∙ v.ensures)

pub add_row_spec : {M : Type 1} → statement M
add_row_spec =
    tie.close
    (tie.spec
    (λ c. search rules)
    (λ c. search rules)
    (λ c. search rules)
    (λ c. search rules)
    (λ c. search rules)
    (λ c. search rules)
    (λ c. search rules)
    (λ c. search rules)
    (λ c. search rules)
    (λ c κs. search rules)
    (λ c. search rules)
    returns)
