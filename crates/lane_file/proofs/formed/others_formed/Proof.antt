-- `formed::others_formed` meets its contract: by cases on the test.
use borrow.Author.Rules.{rules}
use Rattle.lane_file.proofs.ByteBreaks.{others_some, others_none}
use Rattle.lane_file.proofs.formed.others_formed.Statement.{statement}
use Rattle.lane_file.proofs.formed.others_formed.Tie as tie

returns : tie.Need-returns-then-m-ne0
returns c l e =
    let a = c.args in
    others_some a.bytes.now a.n a.m l e _ c.if-m-ne0.true (c.set_formed.ensures a.m l e)

returns-2 : tie.Need-returns
returns-2 c l e =
    let a = c.args in others_none a.bytes.now a.n a.m l e c.if-m-ne0.false

pub others_formed_spec : {M : Type 1} → statement M
others_formed_spec = tie.close (tie.spec (λ c κs. search rules) returns returns-2)
