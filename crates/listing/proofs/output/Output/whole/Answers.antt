use Rattle.std.proofs.Common.{◌∙◌, arith}
use Rattle.listing.proofs.Printing.{byte_then, fewest_digits, few_digits}
use Rattle.listing.proofs.output.Output.whole.Goals as goal

pub returns : goal.returns
returns c =
    let d = c.decimal-count in
    let a = c.args in
    let few = few_digits d.result a.n (omega arith) d.ensures.len in
    byte_then a.self.now 32 c.text.ensures c.byte.ensures (d.ensures.digits ∙ fewest_digits 20 d.result a.n d.ensures.len few)
