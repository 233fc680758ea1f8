-- The knots so far stand in their place.
use Rattle.std.proofs.Common.{◌≡◌, ◌-◌, length}
use Rattle.window.specs.Window.{window}
use Rattle.smoothing.specs.Start.{open_knots}
use Rattle.interpolation.proofs.Knots.{partly}
use Rattle.interpolation.proofs.assembly.put_knots.Given as goal

abbrev pub invariant-loop-j : goal.invariant-loop-j
invariant-loop-j l =
    record {
      length_same : length l.work ≡ length l.fn.work;
      knots_put : l.work ≡ partly l.fn.work (open_knots (window 1 (l.n - 1) (window l.s l.s_end l.fn.work))) l.t l.j;
    }
