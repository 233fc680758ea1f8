-- The numbers before n are printed.
use Rattle.std.proofs.Common.{◌≡◌, take}
use Rattle.listing.specs.Output.{printed}
use Rattle.replay_requests.specs.Lines.{wholes_text}
use Rattle.replay_requests.proofs.lines.wholes.Given as goal

abbrev pub invariant-loop-n : goal.invariant-loop-n
invariant-loop-n l = l.out ≡ printed l.fn.out (wholes_text (take l.n-index l.fn.list))
