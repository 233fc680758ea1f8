-- `segment::on_span` meets its contract: the width is that of the segment.
use borrow.Author.Rules.{rules}
use Rattle.query.proofs.segment.on_span.Statement.{statement}
use Rattle.query.proofs.segment.on_span.Tie as tie

returns : tie.Need-returns
returns c = rw c.requires.1

pub on_span_spec : {M : Type 1} → statement M
on_span_spec = tie.close (tie.spec (λ c. search rules) (λ c. search rules) returns)
