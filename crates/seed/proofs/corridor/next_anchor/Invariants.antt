use Rattle.std.proofs.Common.{◌≡◌, ◌-◌, length, take}
use Rattle.seed.specs.Anchors.{next_from, next_anchor}
use Rattle.seed.proofs.corridor.next_anchor.Given as goal

-- the waypoints left, from the corridor now, give the anchor that all give
abbrev pub invariant-loop-i : goal.invariant-loop-i
invariant-loop-i l =
    next_from l.s l.y l.d (length l.s - l.i) l.anchor l.i (take l.d l.c.lo) (take l.d l.c.hi) ≡ next_anchor l.s l.y l.d l.anchor
