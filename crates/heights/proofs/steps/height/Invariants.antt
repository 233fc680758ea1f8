-- The sum is that of the first k controls, and half of 2 ^ 40.
use Rattle.std.proofs.Common.{◌≡◌, ◌+◌}
use Rattle.heights.proofs.Sums.{lifted_sum}
use Rattle.heights.proofs.steps.height.Given as goal

abbrev pub invariant-loop-k : goal.invariant-loop-k
invariant-loop-k l = l.sum ≡ 549755813888 + lifted_sum l.controls l.j l.k
