-- The cells before x are printed.
use Rattle.std.proofs.Common.{◌≡◌, take}
use Rattle.listing.specs.Output.{printed, cells_text}
use Rattle.listing.proofs.output.Output.cells.Given as goal

abbrev pub invariant-loop-x : goal.invariant-loop-x
invariant-loop-x l = l.self ≡ printed l.fn.self (cells_text (take l.x-index l.fn.list))
