use Rattle.std.proofs.Common.{◌≡◌, take}
use Rattle.arith.specs.Loop.{each}
use Rattle.seed.specs.Corridor.{corridor, axis_turn, narrowed}
use Rattle.seed.proofs.corridor.narrow.Given as goal

-- the axes left, from the bounds now, give what all give
abbrev pub invariant-loop-j : goal.invariant-loop-j
invariant-loop-j l =
    each (axis_turn l.s l.y l.d l.anchor l.i) l.j l.d (corridor (take l.d l.c.lo) (take l.d l.c.hi) l.ok)
    ≡ narrowed l.s l.y l.d l.anchor l.i (take l.d l.fn.c.lo) (take l.d l.fn.c.hi)
