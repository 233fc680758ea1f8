-- The steps before j are written.
use Rattle.std.proofs.Common.{◌≡◌, map}
use Rattle.window.specs.Rows.{list_of, written}
use Rattle.heights.specs.Height.{height_of}
use Rattle.heights.specs.Lifted.{lowered}
use Rattle.heights.proofs.steps.put_steps.Given as goal

abbrev pub invariant-loop-j : goal.invariant-loop-j
invariant-loop-j l = l.out ≡ written 0 (list_of l.j (height_of (map lowered l.controls))) l.fn.out
