-- `segment::scaled` meets its contract.
use mathlib.Core.Path.{refl}
use Rattle.query.specs.Segment.{scaled_of}
use Rattle.query.proofs.segment.scaled.Statement.{statement}
use Rattle.query.proofs.segment.scaled.Tie as tie

returns : tie.Need-returns
unfolding scaled_of
returns c = refl

pub scaled_spec : {M : Type 1} → statement M
scaled_spec = tie.close (tie.spec returns)
