-- The first a cells are the errors of these axes.
use mathlib.Core.Path.{◌≡◌}
use Prim.Native.Nat.{◌+◌}
use lib.ListN.{take, length}
use Rattle.window.specs.Rows.{list_of}
use Rattle.smoothing.specs.Finish.{error_of}
use Rattle.selected_axes.proofs.physical.errors.Given as goal

abbrev pub invariant-loop-a : goal.invariant-loop-a
invariant-loop-a l = (length l.e ≡ 16) × (take l.a l.e ≡ list_of l.a (error_of (l.n + 1) l.d l.bounds))
