use Rattle.std.proofs.Common.{◌∙◌}
use Rattle.listing.proofs.Printing.{byte_then}
use Rattle.listing.proofs.output.Output.cell.Goals as goal

pub returns : goal.returns
returns c = byte_then c.args.self.now 32 c.text.ensures c.byte.ensures (c.as_bytes.ensures.value ∙ c.hex-words.ensures.1)
