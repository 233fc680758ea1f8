use Rattle.listing.specs.Output.{end_text}
use Rattle.replay_requests.specs.Lines.{cells_word}
use Rattle.replay_requests.proofs.Printing.{then_text}
use Rattle.replay_requests.proofs.lines.end.Goals as goal

pub returns : goal.returns
returns c = rw c.if-good.false (then_text c.args.out.now cells_word end_text c.end-2.ensures c.text.ensures)
