use Rattle.std.proofs.Common.{◌≡◌}
use Rattle.arith.specs.Loop.{each}
use Rattle.seed.specs.Knots.{jump_turn, jump_of}
use Rattle.seed.proofs.knots.jump.Given as goal

-- the axes left, from the jump now, give what all give
abbrev pub invariant-loop-j : goal.invariant-loop-j
invariant-loop-j l = each (jump_turn l.s l.y l.d l.a l.b l.c) l.j l.d l.jump ≡ jump_of l.s l.y l.d l.a l.b l.c
