-- The bytes before b are printed.
use Rattle.std.proofs.Common.{◌≡◌, take}
use Rattle.listing.specs.Output.{printed}
use Rattle.listing.proofs.output.Output.text.Given as goal

abbrev pub invariant-loop-b : goal.invariant-loop-b
invariant-loop-b l = l.self ≡ printed l.fn.self (take l.b-index l.fn.words)
