-- Only controls have changed, and what is left to add gives what all gives.
use Rattle.std.proofs.Common.{◌≡◌, ◌+◌, ◌*◌}
use Rattle.arith.specs.Loop.{each}
use Rattle.window.specs.Window.{window, splice}
use Rattle.fit.specs.Fit.{add_turn, added_to}
use Rattle.fit.proofs.window_fit.add_solution.Given as goal

abbrev pub invariant-loop-i : goal.invariant-loop-i
invariant-loop-i l =
    let solution = window l.right (l.right + l.count) l.fn.work in
    record {
      controls_only : l.work ≡ splice l.c l.c_end (window l.c l.c_end l.work) l.fn.work;
      left : each (add_turn solution (l.a * l.d)) l.i l.count (window l.c l.c_end l.work)
          ≡ added_to solution (l.a * l.d) l.count (window l.c l.c_end l.fn.work);
    }
