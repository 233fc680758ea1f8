-- What a call that writes or reads a lane file tells beside the slices. What is not told is left as it was.
use Rattle.std.specs.Prelude.{cond, ℕ, eqb}
use Rattle.curve.specs.declared.Curve.{Curve}
use Rattle.lane_file.specs.Outcome.{WriteOutcome, write_outcome, ReadOutcome, read_outcome}

-- the bytes of the file are told where the number is 0
unfoldable pub write_told : WriteOutcome → ℕ → WriteOutcome
write_told o old = write_outcome o.number (cond (eqb o.number 0) o.count old) o.bytes

-- and so are the numbers of the curve
unfoldable pub read_told : ReadOutcome → Curve → ReadOutcome
read_told o old = read_outcome o.number (cond (eqb o.number 0) o.curve old) o.cells
