-- The first i places hold the first i axes.
use Rattle.std.proofs.Common.{◌≡◌, length, take}
use Rattle.listing.specs.Axes.{axes_of}
use Rattle.listing.proofs.axes.axes_of.Given as goal

abbrev pub invariant-loop-i : goal.invariant-loop-i
invariant-loop-i l = (length l.listed ≡ 16) × (take l.i l.listed ≡ axes_of l.i l.wholes l.from)
