-- What the proof of a loop needs: a turn is taken off the front, and none is left.
use Rattle.arith.proofs.Loops.{each_turn, each_done}

pub ruleset loops = (each_turn, each_done)
