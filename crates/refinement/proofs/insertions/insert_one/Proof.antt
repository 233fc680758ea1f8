-- `insertions::insert_one` meets its contract.
use borrow.Author.Rules.{rules}
use Rattle.refinement.proofs.Inserting.{insert_asks, inserted_spline, inserted_beside}
use Rattle.refinement.proofs.insertions.insert_one.Statement.{statement}
use Rattle.refinement.proofs.insertions.insert_one.Tie as tie

insert-requires : tie.Need-insert-requires
insert-requires c κs =
    let a = c.args in
    let q = c.spline_of-s in
    insert_asks a.p a.work.now c.requires.0 c.requires.1 q.result q.ensures

returns : tie.Need-returns
returns c =
    let a = c.args in
    let q = c.spline_of-s in
    let v = c.insert in (
      inserted_spline a.p a.work.now c.requires.0 c.requires.1 q.result q.ensures a.x v.new.work v.ensures,
      inserted_beside a.p a.work.now c.requires.0 c.requires.1 q.result q.ensures a.x v.new.work v.ensures,
    )

pub insert_one_spec : {M : Type 1} → statement M
insert_one_spec = tie.close (tie.spec (λ c κs. search rules) insert-requires (λ c. search rules) returns)
