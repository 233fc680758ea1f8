use Rattle.std.proofs.Common.{sym, ◌∙◌}
use Rattle.listing.proofs.Printing.{printed_one}
use Rattle.listing.proofs.output.Output.end.Goals as goal

pub returns : goal.returns
returns c = c.byte.ensures ∙ sym (printed_one _ _)
