use Rattle.std.proofs.Common.{◌∙◌}
use Rattle.encoding.proofs.Laws.{eight_bytes}
use Rattle.encoding.proofs.eight.Goals as goal

pub returns : goal.returns
returns c = c.from_le_bytes.ensures ∙ eight_bytes c.args.bytes.now c.requires
